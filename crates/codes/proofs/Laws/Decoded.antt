-- A number normalized: the fit number of the same value, if there is one. And a number cut to a code's bits: it equals the code where no set bit
-- was cut off.
use mathlib.Core.Path.{◌≡◌, ap, ◌∙◌}
use mathlib.Core.Bool.{Bool, true}
use Prim.Native.Nat.{ℕ, ◌+◌, ◌-◌, ◌*◌, ◌/◌, ◌%◌, ◌^◌, ◌≤◌, ◌<◌}
use native.Mathlib.Nat.{div-add-mod', eq_of_mul-eq-mul_right}
use native.Mathlib.Omega.{arith}
use lib.Dec.{eqb}
use lib.Ieee.{minus, up}
use lib.IntN.{ℤ}
use lib.Pow.{pow-add, pow_pos}
use borrow.Author.Tests.{eqb-true, eq-eqb}
use Rattle.numbers.specs.Biased.{origin, bias}
use Rattle.numbers.specs.Fraction.{value, scaled, is_equal, IsScaled}
use Rattle.numbers.specs.Number.{is_working_exponent}
use Rattle.numbers.specs.declared.number.Number.{Number}
use Rattle.numbers.specs.declared.number.Number.TheVariants.{Zero, Finite}
use Rattle.numbers.specs.declared.task.Mode.TheVariants.{Trunc}
use Rattle.numbers.proofs.Laws.Bias.{biased_working}
use Rattle.numbers.proofs.Laws.Fits.{round_zero}
use Rattle.numbers.proofs.Laws.Fractions.{equal_test, equal_passes}
use Rattle.numbers.proofs.Laws.Pairs.{equal_back, equal_through}
use Rattle.numbers.proofs.Laws.Minus.{minus_same}
use Rattle.numbers.proofs.Laws.Same.{round_equal, round_finite}
use Rattle.numbers.proofs.Laws.Scaled.{working_scaled, finer, equal_scaled, same_amount}
use Rattle.numbers.proofs.Laws.Signs.{abs_signed}
use Rattle.numbers.proofs.Laws.Tests.{one_test}
use Rattle.codes.specs.Codes.{normalized, counted, decoded, field_of, encoded, below_normal}
use Rattle.codes.specs.Layout.{IsFormat}
use Rattle.codes.specs.declared.code.Format.{Format}
use Rattle.codes.proofs.Laws.Places.{counted_is, field_is, below_is}

-- the top bit comes to its place, and the exponent goes down with it
pub normalized_shift : (s : Bool) (b S z : ℕ) → z ≤ b → 2 ^ 63 ≤ S * 2 ^ z → S * 2 ^ z < 2 ^ 64
    → normalized (Finite s (minus b bias) S) ≡ Finite s (minus (b - z) bias) (S * 2 ^ z)
normalized_shift s b S z h low high =
    let moved : IsScaled (value (Finite s (minus b bias) S)) s (S * 2 ^ z) (b - z) origin = finer (working_scaled s b S) z (omega arith) in
    round_equal (Finite s (minus b bias) S) (Finite s (minus (b - z) bias) (S * 2 ^ z)) (equal_scaled moved (working_scaled s (b - z) (S * 2 ^ z)))
    ∙ round_finite Trunc s (minus (b - z) bias) (S * 2 ^ z) low high

pub normalized_zero : (s : Bool) (e : ℤ) → normalized (Finite s e 0) ≡ Zero
unfolding value
normalized_zero s e = round_zero Trunc 64 (value (Finite s e 0)) (abs_signed s (0 * up e) ∙ omega arith)

-- the exponent of the code that has the upper bits of a number is that of the number, or the lowest one
exponent_is : (f : Format) (b : ℕ) → IsFormat f → minus (counted (field_of f (minus b bias))) f.bias ≡ minus (b + below_normal f (minus b bias)) bias
exponent_is f b formed =
    let small = formed.small_bias in
    minus_same (counted (field_of f (minus b bias))) f.bias (b + below_normal f (minus b bias)) bias
    (omega (arith, counted_is (field_of f (minus b bias)), field_is f b formed, below_is f b formed))

-- a number of biased exponent b, cut to the bits of a code and moved back, and the number as it was
module _ (f : Format) (s : Bool) (b S : ℕ) where
  abbrev q : ℕ
  q = 2 ^ (below_normal f (minus b bias) + (64 - f.precision))

  abbrev x : Number
  x = Finite s (minus b bias) S

  abbrev cut : Number
  cut = Finite s (minus (b + below_normal f (minus b bias)) bias) (S / q * 2 ^ (64 - f.precision))

  cut_scaled : IsScaled (value cut) s (S / q * q) b origin
  cut_scaled =
      let k = below_normal f (minus b bias) in
      let t = 64 - f.precision in
      let whole : S / q * 2 ^ t * 2 ^ k ≡ S / q * q = omega (arith, ap (λ (n : ℕ). S / q * n) (pow-add 2 k t)) in
      rw whole at (finer (working_scaled s (b + k) (S / q * 2 ^ t)) k {j = b} {p = origin} (omega arith))

  cut_equal : is_equal (value cut) (value x) ≡ eqb (S % q) 0
  cut_equal = one_test (is_equal (value cut) (value x)) (eqb (S % q) 0) there back
    where
      there : is_equal (value cut) (value x) ≡ true → eqb (S % q) 0 ≡ true
      there h =
          let same = equal_back (value cut) (value x) (equal_test (value cut) (value x) h) in
          let here = equal_through (value x) (value cut) (scaled s (S / q * q) b origin) cut_scaled.positive same cut_scaled.amount in
          let level = same_amount {x = value x} (record { positive = (working_scaled s b S).positive; amount = here }) (working_scaled s b S) in
          let whole = eq_of_mul-eq-mul_right (2 ^ b) (pow_pos b) (S / q * q) S (eq_of_mul-eq-mul_right (2 ^ origin) (pow_pos origin) _ _ level) in
          eq-eqb (S % q) 0 (omega (arith, div-add-mod' S q))

      back : eqb (S % q) 0 ≡ true → is_equal (value cut) (value x) ≡ true
      back h =
          let whole : S / q * q ≡ S = omega (arith, div-add-mod' S q, eqb-true (S % q) 0 h) in
          equal_passes (value cut) (value x) (equal_scaled (rw whole at cut_scaled) (working_scaled s b S))

-- so a number and the code that has its upper bits are equal where the bits below are 0
pub encoded_equal : (f : Format) (s : Bool) (e : ℤ) (S : ℕ) → IsFormat f → is_working_exponent e ≡ true
    → is_equal (value (decoded f (encoded f s e S))) (value (Finite s e S)) ≡ eqb (S % 2 ^ (below_normal f e + (64 - f.precision))) 0
unfolding decoded encoded
encoded_equal f s e S formed working = let w = biased_working e working in rw (w.3, exponent_is f w.0 formed) (cut_equal f s w.0 S)
