-- The two steps of a digit, 10 and 11 and again 16 and 17, 22 and 23, 28 and 29, of a remainder that is not zero. The digit is 24 bits of the exact quotient.
use mathlib.Core.Path.{◌≡◌, refl, sym, ◌∙◌}
use mathlib.Core.Bool.{Bool, true}
use Prim.Native.Nat.{ℕ, ◌+◌, ◌-◌, ◌*◌, ◌^◌, ◌≤◌, ◌<◌}
use native.Mathlib.Nat.{lt_of_mul-lt-mul_right, mul-pos, mul-le-mul_right}
use native.Mathlib.Omega.{arith}
use lib.Dec.{lit≤}
use lib.Ieee.{unlike}
use lib.IntN.{nat_abs}
use lib.Pow.{pow-add, pow_mono, pow_pos}
use Rattle.numbers.specs.Biased.{origin}
use Rattle.numbers.specs.Number.{is_working}
use Rattle.numbers.specs.Fraction.{value, product, IsScaled}
use Rattle.numbers.specs.Rounding.{whole_of, by_mode}
use Rattle.numbers.specs.Answer.{given, rounded}
use Rattle.numbers.specs.declared.number.Number.{Number}
use Rattle.numbers.specs.declared.task.Mode.{Mode}
use Rattle.numbers.specs.declared.task.Mode.TheVariants.{Trunc, Away}
use Rattle.numbers.proofs.Laws.Misses.{whole_trunc, whole_away, whole_miss}
use Rattle.numbers.proofs.Laws.Powers.{pow_below, powers_below, below_powers, power_sum}
use Rattle.numbers.proofs.Laws.Ratio.{gap}
use Rattle.numbers.proofs.Laws.Exact.{product_scaled}
use Rattle.numbers.proofs.Laws.Scaled.{moved, finer, coarser, scaled_size, scaled_some, scaled_sign, below_scaled}
use Rattle.numbers.proofs.Laws.Tasks.{IsRounded, rounded_scaled}
use Rattle.division.proofs.Laws.Quotients.{quotient_reaches, quotient_short, quotient_sign}
use Rattle.division.proofs.Laws.Range.{half, half_is, half_square, InRange, lowest_admissible}
use Rattle.steps.proofs.Laws.Remainder.{IsDigitStep, product_low, product_high, product_short, away_below, away_above, whole_bits, units_short, units_near}
use Rattle.steps.proofs.Laws.Shortened.{IsShortened, word_shortened}
use Rattle.steps.proofs.Laws.Terms.{IsReciprocal, Under, HasDigit, IsLast, lowest_after}

-- 64 bits in two parts
pub half_parts : (i j : ℕ) → i + j ≡ 64 → 2 ^ i * 2 ^ j ≡ half * half
half_parts i j e = sym (power_sum 64 i j (sym e)) ∙ sym half_square

-- ---- the digit is `whole` units, and a word is 2^left units of the remainder's last bit

pub record HasQuotient (mode : Mode) (s t : Bool) (b D a R : ℕ) (r x : Number) : Type 0 where
  pub upper : Number
  pub digit : Number
  pub dropped : ℕ
  pub left : ℕ
  pub whole : ℕ
  pub word : left + dropped ≡ 64
  pub least : 39 ≤ dropped
  pub most : dropped ≤ 41
  pub first_step : rounded (by_mode Trunc 32) (value x) ≡ given upper
  pub second_step : rounded (by_mode mode 24) (product (value upper) (value r)) ≡ given digit
  pub fit : is_working digit ≡ true
  pub amount : IsScaled (value digit) (unlike t s) whole (dropped + a) (b + 64)
  pub bits_low : 2 ^ 23 ≤ whole
  pub bits : whole ≤ 2 ^ 24
  pub reach : 2 ^ 23 * D ≤ R * 2 ^ left
  pub short : mode ≡ Trunc → whole * D ≤ R * 2 ^ left
  pub near : mode ≡ Away → gap (R * 2 ^ left) (whole * D) < D

module _ (s t : Bool) (b D a R : ℕ) (r x : Number) (divisor : InRange lowest_admissible b D) (reciprocal : IsReciprocal s b D r)
    (range : InRange (lowest_after 3) a R) (is : IsScaled (value x) t R a origin) where
  upper : IsShortened Trunc 64 (value x) t R (a + 32) origin
  upper = word_shortened Trunc (lit≤ tt) range is

  P : ℕ
  P = upper.whole * reciprocal.whole

  digit_step_is : IsDigitStep half R upper.whole reciprocal.whole D
  digit_step_is = record {
    wide = rw half_is (lit≤ tt);
    top = omega (arith, half_square);
    word = omega (arith, half_square);
    low = upper.below refl;
    high = omega (arith, half_is, upper.near);
    divisor_top = omega (arith, half_square);
    divisor_word = omega (arith, half_square);
    under = reciprocal.under;
    close = reciprocal.close;
  }

  least_product : 2 ^ 62 ≤ P
  unfolding P
  least_product = omega (arith, half_square, product_low digit_step_is)

  most_product : P < 2 ^ 65
  unfolding P
  most_product = omega (arith, half_square, product_high digit_step_is)

  product_is : IsScaled (product (value upper.number) (value r)) (unlike t s) P a (b + 64)
  unfolding P
  product_is = moved (product_scaled upper.amount reciprocal.amount) (omega arith)

  -- in units of the last of the k bits that are dropped
  module _ (k left : ℕ) (word : left + k ≡ 64) where
    units_most : (m : ℕ) → m * 2 ^ k ≤ P → m * D ≤ R * 2 ^ left
    unfolding P
    units_most m h = units_short (half * half) R D (2 ^ k) (2 ^ left) (pow_pos k) (half_parts left k word) m P h (product_short digit_step_is)

    units_close : 39 ≤ k → gap (R * 2 ^ left) (whole_of Away (unlike t s) P (2 ^ k) * D) < D
    unfolding P
    units_close least =
        let m = whole_of Away (unlike t s) P (2 ^ k) in
        let away : P ≤ m * 2 ^ k = whole_away P (2 ^ k) (pow_pos k) (unlike t s) in
        let miss : gap (m * 2 ^ k) P < 2 ^ k = whole_miss P (2 ^ k) (pow_pos k) Away (unlike t s) in
        let unit : m * 2 ^ k < P + 2 ^ k = omega arith in
        let fine : 128 * half ≤ 2 ^ k = rw half_is (pow_mono {i = 39} least) in
        units_near (half * half) R D (2 ^ k) (2 ^ left) (pow_pos k) (half_parts left k word) m
        (away_below digit_step_is m (2 ^ k) away unit fine) (away_above digit_step_is m (2 ^ k) away unit fine)

  pub has_quotient : (mode : Mode) → HasQuotient mode s t b D a R r x
  has_quotient mode = go (rounded_scaled mode 24 65 product_is (lit≤ tt) (lit≤ tt) (omega (arith, least_product)) most_product (omega arith) (omega arith))
    where
      go : IsRounded mode 24 (product (value upper.number) (value r)) (unlike t s) P a (b + 64) → HasQuotient mode s t b D a R r x
      go rounding =
          let k = rounding.dropped in
          let m = whole_of mode (unlike t s) P (2 ^ k) in
          let least : 39 ≤ k = omega (arith, below_powers 24 k 62 P least_product rounding.high) in
          let most : k ≤ 41 = omega (arith, powers_below 23 k 65 P rounding.low most_product) in
          let word : 64 - k + k ≡ 64 = omega arith in
          let bits = whole_bits (2 ^ 23) P m (2 ^ k) rounding.low rounding.high (whole_miss P (2 ^ k) (pow_pos k) mode (unlike t s)) in
          record {
            upper = upper.number;
            digit = rounding.number;
            dropped = k;
            left = 64 - k;
            whole = m;
            word = word;
            least = least;
            most = most;
            first_step = upper.step;
            second_step = rounding.step;
            fit = rounding.fit;
            amount = coarser m k rounding.amount refl;
            bits_low = bits.0;
            bits = bits.1;
            reach = units_most k (64 - k) word (2 ^ 23) rounding.low;
            short = λ (e : mode ≡ Trunc). units_most k (64 - k) word m (rw e (whole_trunc P (2 ^ k) (pow_pos k) (unlike t s)));
            near = λ (e : mode ≡ Away). rw e (units_close k (64 - k) word least);
          }

-- ---- what it says of the exact quotient

module _ {mode : Mode} {s t : Bool} {b D a R : ℕ} {r x : Number} (q : HasQuotient mode s t b D a R r x) (is : IsScaled (value x) t R a origin) where
  pub in_units : IsScaled (value x) t (R * 2 ^ q.left) (q.dropped + a) (origin + 64)
  in_units = finer is q.left (omega (arith, q.word))

  pub finer_unit : (g : ℕ) → 0 < D → Under D g x → q.dropped + a + 23 ≤ g
  finer_unit g D0 under =
      narrow (nat_abs (value x).numerator) (value x).denominator (2 ^ (origin + 64)) (R * 2 ^ q.left) (q.dropped + a) is.positive q.reach
      (scaled_size in_units) ((below_scaled (value x) D g (origin + 64)).0 under)
    where
      narrow : (X E o A i : ℕ) → 0 < E → 2 ^ 23 * D ≤ A → X * o ≡ A * 2 ^ i * E → X * o < D * 2 ^ g * E → i + 23 ≤ g
      narrow X E o A i E0 reach e under =
          let k : A * 2 ^ i < D * 2 ^ g = lt_of_mul-lt-mul_right E (omega arith) in
          let l : 2 ^ 23 * 2 ^ i < 2 ^ g = lt_of_mul-lt-mul_right D (omega (arith, mul-le-mul_right (2 ^ i) reach)) in
          let n : 23 + i < g = pow_below (23 + i) g (rw (pow-add 2 23 i) l) in
          omega arith

  unfoldable pub has_digit : (d : Number) (g : ℕ) → 0 < D → IsScaled (value d) s D b origin → Under D g x → HasDigit mode b D g d r x
  has_digit d g D0 divisor under = record {
    upper = q.upper;
    digit = q.digit;
    unit = q.dropped + a;
    finer = finer_unit g D0 under;
    first_step = q.first_step;
    second_step = q.second_step;
    is_digit = record { sign = unlike t s; whole = q.whole; bits = q.bits; fit = q.fit; amount = q.amount };
    reaches = λ (z : 0 < nat_abs (value x).numerator). quotient_reaches D0 divisor in_units (2 ^ 23) q.reach;
  }

  -- cut short it lies between zero and the quotient
  pub has_last : (d : Number) → mode ≡ Trunc → 0 < D → 0 < R → IsScaled (value d) s D b origin → IsLast d x q.digit
  has_last d trunc D0 R0 divisor =
      let some : 0 < q.whole = omega (arith, q.bits_low) in
      record {
        sign = scaled_sign q.amount some ∙ sym (quotient_sign D0 divisor in_units (mul-pos R0 (pow_pos q.left)));
        short = quotient_short D0 divisor in_units q.whole (q.short trunc) q.amount;
        zero_only = λ (z : nat_abs (value q.digit).numerator ≡ 0). absurd (omega (arith, z, scaled_some q.amount some));
      }
