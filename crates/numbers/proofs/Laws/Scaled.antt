-- Fractions that are a whole number times a power of two, ± N × 2^i / 2^o: the value of a number is one, the same fraction stands on other grids, its magnitude
-- is that of N, and its sign the one written unless N is 0.
use mathlib.Core.Path.{◌≡◌, refl, sym, ap, ◌∙◌}
use mathlib.Core.Bool.{Bool, false}
use mathlib.Core.Logic.{◌↔◌}
use Prim.Native.Nat.{ℕ, ◌+◌, ◌*◌, ◌^◌, ◌≤◌, ◌<◌}
use native.Mathlib.Nat.{eq_of_mul-eq-mul_right, lt_of_mul-lt-mul_right, mul-pos}
use native.Mathlib.Omega.{arith}
use lib.Dec.{lit<, ltb→lt, leb→le, lt→ltb, le→leb}
use lib.Ieee.{minus, up, down}
use lib.Ieee.Digits.{minus_val}
use lib.Ieee.Fits.{down_pos}
use lib.IntN.{ℤ, pos, nat_abs, zero-*ℤ, ◌*ℤ◌}
use lib.Pow.{pow-add, pow_pos}
use lib.Signed.{le_z_yes, lt_z_yes}
use Rattle.numbers.specs.Biased.{bias, origin}
use Rattle.numbers.specs.Fraction.{IsScaled, scaled, Fraction, IsFraction, Equal, AtMost, Below, signed, value, magnitude, is_negative}
use Rattle.numbers.specs.declared.number.Number.{Number}
use Rattle.numbers.specs.declared.number.Number.TheVariants.{Zero, Finite}
use Rattle.numbers.proofs.Laws.Fractions.{signed_equal, equal_magnitudes, equal_signs}
use Rattle.numbers.proofs.Laws.Pairs.{equal_back, equal_through}
use Rattle.numbers.proofs.Laws.Signs.{abs_signed, negative_signed, abs_zero, signed_zero}
use Rattle.numbers.proofs.Laws.Splits.{signed_times}
use Rattle.numbers.proofs.Laws.Powers.{power_sum}

pub scaled_fraction : (s : Bool) (N i o : ℕ) → IsFraction (scaled s N i o)
scaled_fraction s N i o = pow_pos o

pub scaled_own : (s : Bool) (N i o : ℕ) → IsScaled (scaled s N i o) s N i o
unfolding Equal
scaled_own s N i o = record { positive = pow_pos o; amount = refl }

pub origin_is : origin ≡ bias + 63
unfolding origin
origin_is = refl

-- the value of a number is a fraction
pub value_fraction : (y : Number) → IsFraction (value y)
unfolding value
value_fraction Zero = lit< tt
value_fraction (Finite s e S) = mul-pos (pow_pos 63) (down_pos e)

-- S × 2^(E − o) over 2^t is S × 2^E over 2^l, where l is o + t
biased_power : (S E o t l : ℕ) → l ≡ o + t → S * up (minus E o) * 2 ^ l ≡ S * 2 ^ E * (2 ^ t * down (minus E o))
biased_power S E o t l e = omega (arith, ap (λ (n : ℕ). n * 2 ^ t) (minus_val S E o), ap (λ (n : ℕ). S * up (minus E o) * n) (power_sum l o t e))

-- the value of a number, by its biased exponent
pub working_scaled : (s : Bool) (b S : ℕ) → IsScaled (value (Finite s (minus b bias) S)) s S b origin
unfolding value
working_scaled s b S = record {
  positive = value_fraction (Finite s (minus b bias) S);
  amount =
      signed_equal s (S * up (minus b bias)) (2 ^ 63 * down (minus b bias)) (S * 2 ^ b) (2 ^ origin)
      (biased_power S b bias 63 origin origin_is);
}

pub finite_scaled : (s : Bool) (b S : ℕ) {e : ℤ} → e ≡ minus b bias → IsScaled (value (Finite s e S)) s S b origin
finite_scaled s b S is = rw is (working_scaled s b S)

-- zero is 0 on every grid
pub zero_value : nat_abs (value Zero).numerator ≡ 0
unfolding value
zero_value = refl

pub zero_equal : (x : Fraction) → nat_abs x.numerator ≡ 0 → Equal (value Zero) x
unfolding Equal value
zero_equal x none = zero-*ℤ (pos x.denominator) ∙ sym (ap (λ (z : ℤ). z *ℤ pos 1) (abs_zero x.numerator none) ∙ zero-*ℤ (pos 1))

pub zero_scaled : {x : Fraction} {s : Bool} {i o : ℕ} → IsFraction x → nat_abs x.numerator ≡ 0 → IsScaled x s 0 i o
unfolding Equal
zero_scaled {x} {s} {i} {o} x0 none = record {
  positive = x0;
  amount =
      ap (λ (z : ℤ). z *ℤ pos (2 ^ o)) (abs_zero x.numerator none)
      ∙ zero-*ℤ (pos (2 ^ o))
      ∙ sym (signed_times s (0 * 2 ^ i) x.denominator ∙ ap (signed s) (omega arith) ∙ signed_zero s);
}

-- a fraction by its sign and its magnitude
pub signed_scaled : {x : Fraction} {s : Bool} {N i o : ℕ} → IsFraction x → x.numerator ≡ signed s (nat_abs x.numerator)
    → nat_abs x.numerator * 2 ^ o ≡ N * 2 ^ i * x.denominator → IsScaled x s N i o
unfolding Equal
signed_scaled {x} {s} {N} {i} {o} x0 sign size = record {
  positive = x0;
  amount =
      ap (λ (z : ℤ). z *ℤ pos (2 ^ o)) sign
      ∙ signed_times s (nat_abs x.numerator) (2 ^ o)
      ∙ ap (signed s) size
      ∙ sym (signed_times s (N * 2 ^ i) x.denominator);
}

-- N × 2^(i + p), in three powers
pub same_power : (N i p k j o : ℕ) → i + p ≡ k + j + o → N * 2 ^ i * 2 ^ p ≡ N * 2 ^ k * 2 ^ j * 2 ^ o
same_power N i p k j o e =
    omega (
      arith,
      ap (λ (n : ℕ). N * n) (sym (pow-add 2 i p) ∙ power_sum (i + p) (k + j) o e ∙ ap (λ (n : ℕ). n * 2 ^ o) (pow-add 2 k j)),
    )

-- 2^i / 2^o depends on i − o alone
pub same_grid : (s : Bool) (N i o j p : ℕ) → i + p ≡ j + o → Equal (scaled s N i o) (scaled s N j p)
same_grid s N i o j p e = signed_equal s (N * 2 ^ i) (2 ^ o) (N * 2 ^ j) (2 ^ p) (omega (arith, same_power N i p 0 j o (omega arith)))

module _ {x : Fraction} {s : Bool} {N i o : ℕ} (h : IsScaled x s N i o) where
  -- ---- on another grid

  regridded : {M j p : ℕ} → N * 2 ^ i * 2 ^ p ≡ M * 2 ^ j * 2 ^ o → IsScaled x s M j p
  regridded {M} {j} {p} e = record {
    positive = h.positive;
    amount =
        equal_through x (scaled s N i o) (scaled s M j p) (scaled_fraction s N i o) h.amount (signed_equal s (N * 2 ^ i) (2 ^ o) (M * 2 ^ j) (2 ^ p) e);
  }

  -- i − o alone counts
  pub moved : {j p : ℕ} → i + p ≡ j + o → IsScaled x s N j p
  moved {j} {p} e = regridded (omega (arith, same_power N i p 0 j o (omega arith)))

  -- k bits more, all 0
  pub finer : (k : ℕ) {j p : ℕ} → i + p ≡ k + j + o → IsScaled x s (N * 2 ^ k) j p
  finer k {j} {p} e = regridded (same_power N i p k j o e)

  -- ---- the magnitude and the sign

  pub scaled_size : nat_abs x.numerator * 2 ^ o ≡ N * 2 ^ i * x.denominator
  scaled_size = equal_magnitudes x (scaled s N i o) h.amount ∙ ap (λ (n : ℕ). n * x.denominator) (abs_signed s (N * 2 ^ i))

  pub scaled_some : 0 < N → 0 < nat_abs x.numerator
  scaled_some N0 = lt_of_mul-lt-mul_right (2 ^ o) (omega (arith, scaled_size, mul-pos (mul-pos N0 (pow_pos i)) h.positive))

  pub scaled_none : N ≡ 0 → nat_abs x.numerator ≡ 0
  scaled_none e =
      eq_of_mul-eq-mul_right (2 ^ o) (pow_pos o) (nat_abs x.numerator) 0 (scaled_size ∙ ap (λ (n : ℕ). n * 2 ^ i * x.denominator) e ∙ omega arith)

  pub scaled_sign : 0 < N → is_negative x.numerator ≡ s
  scaled_sign N0 =
      equal_signs x (scaled s N i o) h.positive (scaled_fraction s N i o) h.amount
      ∙ negative_signed s (N * 2 ^ i) (mul-pos N0 (pow_pos i))

-- k last bits that are 0, taken into the power
pub coarser : {x : Fraction} {s : Bool} {i o j p : ℕ} (N k : ℕ) → IsScaled x s (N * 2 ^ k) i o → k + i + p ≡ j + o → IsScaled x s N j p
coarser {i = i} {o} {j} {p} N k h e = regridded h (sym (same_power N j o k i p (sym e)))

-- two fractions of one amount
pub equal_scaled : {x y : Fraction} {s : Bool} {N i o : ℕ} → IsScaled x s N i o → IsScaled y s N i o → Equal x y
equal_scaled {x} {y} {s} {N} {i} {o} h k =
    equal_through x (scaled s N i o) y (scaled_fraction s N i o) h.amount (equal_back y (scaled s N i o) k.amount)

-- one fraction on two grids
pub same_amount : {x : Fraction} {s t : Bool} {M N i j o p : ℕ} → IsScaled x s M i o → IsScaled x t N j p → M * 2 ^ i * 2 ^ p ≡ N * 2 ^ j * 2 ^ o
same_amount {x} {M = M} {N} {i} {j} {o} {p} h k =
    level (nat_abs x.numerator) x.denominator (M * 2 ^ i) (N * 2 ^ j) (2 ^ o) (2 ^ p) h.positive (scaled_size h) (scaled_size k)
  where
    level : (X d m n a b : ℕ) → 0 < d → X * a ≡ m * d → X * b ≡ n * d → m * b ≡ n * a
    level X d m n a b d0 e f = eq_of_mul-eq-mul_right d d0 (m * b) (n * a) (omega (arith, ap (λ (z : ℕ). z * b) e, ap (λ (z : ℕ). z * a) f))

-- ---- a magnitude against N × 2^i / 2^o

pub below_scaled : (x : Fraction) (N i o : ℕ) → Below (magnitude x) (scaled false N i o) ↔ (nat_abs x.numerator * 2 ^ o < N * 2 ^ i * x.denominator)
unfolding Below magnitude signed
below_scaled x N i o = (
  λ h. ltb→lt (nat_abs x.numerator * 2 ^ o) (N * 2 ^ i * x.denominator) h.lt,
  λ h. lt_z_yes (lt→ltb (nat_abs x.numerator * 2 ^ o) (N * 2 ^ i * x.denominator) h),
)

pub reaches_scaled : (x : Fraction) (N i o : ℕ) → AtMost (scaled false N i o) (magnitude x) ↔ (N * 2 ^ i * x.denominator ≤ nat_abs x.numerator * 2 ^ o)
unfolding AtMost magnitude signed
reaches_scaled x N i o = (
  λ h. leb→le (N * 2 ^ i * x.denominator) (nat_abs x.numerator * 2 ^ o) h.le,
  λ h. le_z_yes (le→leb (N * 2 ^ i * x.denominator) (nat_abs x.numerator * 2 ^ o) h),
)
