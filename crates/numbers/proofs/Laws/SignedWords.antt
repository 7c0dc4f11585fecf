-- Whole numbers as signed words: what the machine reads of them, when a difference of 32 bits has room, and a word by its sign.
use mathlib.Core.Path.{◌≡◌, refl, ap, ap₂, ◌∙◌}
use mathlib.Core.Bool.{true, false}
use Prim.Native.Nat.{ℕ, suc, ◌+◌, ◌-◌, ◌^◌, ◌≤◌, ◌<◌}
use native.Mathlib.Omega.{arith}
use borrow.Author.Tests.{ltb-true}
use lib.Dec.{T}
use lib.Ieee.{minus}
use lib.IntN.{ℤ, pos, negsuc, nat_abs, ◌-ℤ◌}
use lib.Signed.{lt_z, non_neg}
use mir.Facts.{to_z-of_z, to_z_pos}
use mir.Syntax.{Width, w32}
use mir.Val.{SFits, Fits, to_z, of_z, bits, hbits}
use Rattle.numbers.proofs.Laws.Minus.{minus_small, pos_minus}
use Rattle.numbers.proofs.Laws.Tests.{never}

-- a difference i − o from −2^31 to 2^31 − 1 has room
pub minus_fits : (i o : ℕ) → i < o + 2 ^ 31 → o ≤ i + 2 ^ 31 → SFits w32 (minus i o)
minus_fits i o a b = record { sfits = minus_small i o (2 ^ 31) a b }

-- the difference of two natural numbers, as the machine has it
pub difference_read : (a b : ℕ) → a < 2 ^ 31 → b < 2 ^ 31 → to_z w32 a -ℤ to_z w32 b ≡ minus a b
difference_read a b ha hb = ap₂ ◌-ℤ◌ (to_z_pos w32 {n = a} ha) (to_z_pos w32 {n = b} hb) ∙ pos_minus a b

-- z is the natural number k, which has room in a signed word: so it is read as k, and may be cast to a word that has room for k
pub record IsWhole (w : Width) (z : ℤ) (k : ℕ) : Type 0 where
  pub is : z ≡ pos k
  pub small : k < 2 ^ hbits w

module _ {w : Width} {z : ℤ} {k : ℕ} (whole : IsWhole w z k) where
  pub whole_fits : SFits w z
  whole_fits = rw whole.is (record { sfits = whole.small })

  pub whole_read : to_z w (of_z w z) ≡ pos k
  whole_read = to_z-of_z whole_fits ∙ whole.is

  pub whole_cast : (v : Width) → k < 2 ^ bits v → T (non_neg (to_z w (of_z w z))) × Fits v (nat_abs (to_z w (of_z w z)))
  whole_cast v room = rw whole_read (tt, record { fits = room })

-- a negative word of 32 bits, with what its complement reads: its magnitude less one
pub record IsNegative (z : ℤ) : Type 0 where
  pub below : ℕ
  pub whole : z ≡ negsuc below
  pub complement : to_z w32 (4294967295 - of_z w32 z) ≡ pos below
  pub small : below < 2 ^ 31

-- a word that is not negative
pub record IsNatural (z : ℤ) : Type 0 where
  pub magnitude : ℕ
  pub whole : z ≡ pos magnitude
  pub itself : to_z w32 (of_z w32 z) ≡ pos magnitude
  pub small : magnitude < 2 ^ 31

module _ (z : ℤ) (f : SFits w32 z) where
  pub negative : lt_z (to_z w32 (of_z w32 z)) (pos 0) ≡ true → IsNegative z
  negative t = go z f (rw (to_z-of_z f) at t)
    where
      go : (z : ℤ) → SFits w32 z → lt_z z (pos 0) ≡ true → IsNegative z
      go (pos n) f t = let h : n < 0 = ltb-true n 0 t in absurd (omega arith)
      go (negsuc k) f t =
          let e : 4294967295 - (4294967296 - suc k) ≡ k = omega (arith, f.sfits) in
          record { below = k; whole = refl; complement = ap (to_z w32) e ∙ to_z_pos w32 f.sfits; small = f.sfits }

  pub natural : lt_z (to_z w32 (of_z w32 z)) (pos 0) ≡ false → IsNatural z
  natural t = go z f (rw (to_z-of_z f) at t)
    where
      go : (z : ℤ) → SFits w32 z → lt_z z (pos 0) ≡ false → IsNatural z
      go (pos n) f t = record { magnitude = n; whole = refl; itself = to_z-of_z f; small = f.sfits }
      go (negsuc k) f t = never cc
