-- The bits of a code: the leading one, stored or not, with which the stored bits have room, and which storing them drops again; and the sign and the
-- field above them.
use mathlib.Core.Path.{◌≡◌, refl, ◌∙◌}
use mathlib.Core.Bool.{Bool, true, false, ◌&&◌, cond}
use Prim.Native.Nat.{ℕ, suc, ◌+◌, ◌-◌, ◌*◌, ◌%◌, ◌^◌, ◌<◌, suc-le-suc}
use native.Mathlib.Nat.{add-zero, add-mod_right, lt_of_lt_of_le, mod-eq_of_lt, mod-eq-sub-mod, one-mul, pow-succ'}
use native.Mathlib.Omega.{arith}
use borrow.Author.Tests.{leb-true, leb-false, ltb-true, ltb-false}
use lib.Arith.{digits_lt}
use lib.Dec.{leb, ltb, lit<}
use lib.Pow.{pow_mono, shl_exact}
use Rattle.std.specs.Int.{from_bool}
use Rattle.numbers.proofs.Laws.Tests.{at_most_one}
use Rattle.codes.specs.Codes.{exponent_bits, leading_one, sign_bit}
use Rattle.codes.specs.Layout.{IsFormat, IsCode}
use Rattle.codes.specs.declared.code.Code.{Code}
use Rattle.codes.specs.declared.code.Format.{Format}

-- a bit alone, as the machine moves it to its place
pub one_bit : (j : ℕ) → j < 64 → 1 * 2 ^ j % 2 ^ 64 ≡ 2 ^ j
one_bit j h = shl_exact 1 j 64 (lit< tt) (omega (arith, h)) ∙ one-mul (2 ^ j)

module _ (f : Format) (formed : IsFormat f) where
  -- where the top bit is not stored, it stands above the stored ones
  top_above : ltb f.stored f.precision ≡ true → f.precision ≡ suc f.stored
  top_above h = omega (arith, ltb-true f.stored f.precision h, formed.stored_least)

  -- stored bits have room with their leading one, which storing them drops again
  pub leading_room : (field r : ℕ) → r < 2 ^ f.stored → (r + leading_one f field < 2 ^ f.precision) × ((r + leading_one f field) % 2 ^ f.stored ≡ r)
  unfolding leading_one
  leading_room field r h = go (ltb f.stored f.precision) (ltb 0 field) top_above
    where
      go : (t u : Bool) → (t ≡ true → f.precision ≡ suc f.stored)
          → (r + cond (t && u) (2 ^ f.stored) 0 < 2 ^ f.precision) × ((r + cond (t && u) (2 ^ f.stored) 0) % 2 ^ f.stored ≡ r)
      go true true e = rw (e refl) (omega (arith, pow-succ' 2 f.stored), add-mod_right r (2 ^ f.stored) ∙ mod-eq_of_lt h)
      go true false e = rw (add-zero r) (lt_of_lt_of_le h (pow_mono formed.stored_most), mod-eq_of_lt h)
      go false u e = rw (add-zero r) (lt_of_lt_of_le h (pow_mono formed.stored_most), mod-eq_of_lt h)

  -- a significand that has its top bit set exactly where the field is above 0 is its stored bits with their leading one
  pub leading_back : (field S : ℕ) → S < 2 ^ f.precision → leb (2 ^ (f.precision - 1)) S ≡ ltb 0 field → S % 2 ^ f.stored + leading_one f field ≡ S
  unfolding leading_one
  leading_back field S h top = go (ltb f.stored f.precision) (ltb 0 field) refl top
    where
      P : ℕ
      P = 2 ^ f.stored

      go : (t u : Bool) → ltb f.stored f.precision ≡ t → leb (2 ^ (f.precision - 1)) S ≡ u → S % P + cond (t && u) P 0 ≡ S
      go false u e top = rw (add-zero (S % P)) (mod-eq_of_lt (lt_of_lt_of_le h (pow_mono (ltb-false f.stored f.precision e))))
      go true u e top =
          let k : f.precision - 1 ≡ f.stored = omega (arith, top_above e) in
          above u (rw k at top) (rw (top_above e, pow-succ' 2 f.stored) at h)
        where
          above : (u : Bool) → leb P S ≡ u → S < 2 * P → S % P + cond u P 0 ≡ S
          above true top high = let low = leb-true P S top in rw (mod-eq-sub-mod low, mod-eq_of_lt (let k : S - P < P = omega arith in k)) (omega arith)
          above false top high = rw (add-zero (S % P)) (mod-eq_of_lt (leb-false P S top))

-- the sign bit, as the machine makes it
pub sign_bit_read : (negative : Bool) → from_bool negative ≡ sign_bit negative
sign_bit_read true = refl
sign_bit_read false = refl

-- the sign and the field of a code, which stand above its significand, have one bit more than the field
pub upper_below : (f : Format) (c : Code) (sign : ℕ) → IsCode f c → sign ≡ sign_bit c.negative → sign * 2 ^ exponent_bits f + c.field < 2 * 2 ^ exponent_bits f
upper_below f c sign h e = digits_lt (rw e (suc-le-suc (at_most_one c.negative))) h.field_fits
