-- What the value of a rounding is: as many units of the last place as the whole number that the scaled magnitude is made, with or without a
-- carry, and for zero too.
use mathlib.Core.Path.{◌≡◌, sym, ap, ◌∙◌}
use mathlib.Core.Bool.{Bool, true, false, cond}
use Prim.Native.Nat.{ℕ, ◌-◌, ◌*◌, ◌^◌, ◌≤◌, ◌<◌}
use native.Mathlib.Omega.{arith}
use native.Mathlib.Nat.{mul-pos}
use lib.Dec.{T, eqb, eqb→eq}
use lib.IntN.{ℤ, pos, nat_abs, suc_ℤ, ◌*ℤ◌}
use lib.Pow.{pow_pos}
use lib.Ieee.{up, down}
use lib.Ieee.Fits.{up_pos, down_pos}
use Rattle.numbers.specs.Fraction.{Fraction, IsFraction, value, difference, signed, is_negative}
use Rattle.numbers.specs.Rounding.{exponent_of, scaled_numerator, scaled_denominator, whole_of, placed, rounded_at, round}
use Rattle.numbers.specs.declared.number.Number.{Number}
use Rattle.numbers.specs.declared.number.Number.TheVariants.{Zero, Finite}
use Rattle.numbers.specs.declared.task.Mode.{Mode}
use Rattle.numbers.proofs.Laws.Splits.{signed_times, abs_difference}
use Rattle.numbers.proofs.Laws.Powers.{power_twice, word_parts}
use Rattle.numbers.proofs.Laws.Ratio.{Ratio, gap}
use Rattle.numbers.proofs.Laws.Signs.{abs_signed, signed_abs, signed_zero}
use Rattle.numbers.proofs.Laws.Exponent.{up_suc}
use Rattle.numbers.proofs.Laws.Misses.{whole_exact}

-- y is q × 2^(e − n + 1) with the sign s
pub record IsUnits (y : Number) (s : Bool) (n : ℕ) (e : ℤ) (q : ℕ) : Type 0 where
  pub sign : (value y).numerator ≡ signed s (nat_abs (value y).numerator)
  pub ratio : nat_abs (value y).numerator * (2 ^ (n - 1) * down e) ≡ q * up e * (value y).denominator

-- a number, by its own exponent d and significand S
finite_units : (s : Bool) (n : ℕ) (e d : ℤ) (q S : ℕ) → S * up d * (2 ^ (n - 1) * down e) ≡ q * up e * (2 ^ 63 * down d) → IsUnits (Finite s d S) s n e q
unfolding value
finite_units s n e d q S h = record { sign = ap (λ (m : ℕ). signed s m) (sym (abs_signed s (S * up d))); ratio = rw (abs_signed s (S * up d)) h }

-- its cross products, where nothing is carried and where 2^n is
plain : (c p w q u d : ℕ) → p * w ≡ c → q * w * u * (p * d) ≡ q * u * (c * d)
plain c p w q u d h = omega (arith, ap (λ (m : ℕ). q * u * d * m) h)

carried : (c p q u d v f : ℕ) → q ≡ 2 * p → v * d ≡ 2 * u * f → c * v * (p * d) ≡ q * u * (c * f)
carried c p q u d v f h k = omega (arith, ap (λ (m : ℕ). m * (u * c * f)) h, ap (λ (m : ℕ). c * p * m) k)

placed_units : (s : Bool) (e : ℤ) (n q : ℕ) → 1 ≤ n → n ≤ 64 → IsUnits (placed s e n q) s n e q
unfolding placed
placed_units s e n q n0 n1 = go (eqb q (2 ^ n)) (eqb→eq q (2 ^ n))
  where
    go : (t : Bool) → (T t → q ≡ 2 ^ n) → IsUnits (cond t (Finite s (suc_ℤ e) (2 ^ 63)) (Finite s e (q * 2 ^ (64 - n)))) s n e q
    go true h = finite_units s n e (suc_ℤ e) q (2 ^ 63) (carried (2 ^ 63) (2 ^ (n - 1)) q (up e) (down e) (up (suc_ℤ e)) (down (suc_ℤ e)) (h tt ∙ power_twice n n0) (up_suc e))
    go false h = finite_units s n e e q (q * 2 ^ (64 - n)) (plain (2 ^ 63) (2 ^ (n - 1)) (2 ^ (64 - n)) q (up e) (down e) (word_parts n n0 n1))

-- zero is made zero, so that the number of units is the whole number there too
zero_whole : (mode : Mode) (n : ℕ) (s : Bool) (e : ℤ) (a b : ℕ) → 0 < b → a ≡ 0 → whole_of mode s (scaled_numerator n e a) (scaled_denominator e b) ≡ 0
unfolding scaled_numerator scaled_denominator
zero_whole mode n s e a b b0 h =
    ap (λ (m : ℕ). whole_of mode s m (b * up e)) (let k : a * 2 ^ (n - 1) * down e ≡ 0 * (b * up e) = rw h (omega arith) in k)
    ∙ whole_exact mode s 0 (b * up e) (mul-pos b0 (up_pos e))

units : (mode : Mode) (n : ℕ) (s : Bool) (e : ℤ) (a b : ℕ) → 0 < b → 1 ≤ n → n ≤ 64
    → IsUnits (cond (eqb a 0) Zero (rounded_at e mode n s a b)) s n e (whole_of mode s (scaled_numerator n e a) (scaled_denominator e b))
unfolding rounded_at value
units mode n s e a b b0 n0 n1 = go (eqb a 0) (eqb→eq a 0) (whole_of mode s (scaled_numerator n e a) (scaled_denominator e b)) (zero_whole mode n s e a b b0)
  where
    go : (t : Bool) → (T t → a ≡ 0) → (q : ℕ) → (a ≡ 0 → q ≡ 0) → IsUnits (cond t Zero (placed s e n q)) s n e q
    go true h q k = record { sign = sym (signed_zero s); ratio = rw (k (h tt)) (omega arith) }
    go false h q k = placed_units s e n q n0 n1

-- the parts of a rounding: the exponent of x, its magnitude scaled, as `numerator_at` over `denominator_at`, and the whole number that this is made
abbrev pub exponent : Fraction → ℤ
exponent x = exponent_of (nat_abs x.numerator) x.denominator

abbrev pub numerator_at : ℕ → Fraction → ℕ
numerator_at n x = scaled_numerator n (exponent x) (nat_abs x.numerator)

abbrev pub denominator_at : Fraction → ℕ
denominator_at x = scaled_denominator (exponent x) x.denominator

abbrev pub whole : Mode → ℕ → Fraction → ℕ
whole mode n x = whole_of mode (is_negative x.numerator) (numerator_at n x) (denominator_at x)

-- the magnitudes of x and of its rounding, over one denominator
abbrev pub before : Mode → ℕ → Fraction → ℕ
before mode n x = nat_abs x.numerator * (value (round mode n x)).denominator

abbrev pub after : Mode → ℕ → Fraction → ℕ
after mode n x = nat_abs (value (round mode n x)).numerator * x.denominator

module _ (mode : Mode) (n : ℕ) (x : Fraction) (x0 : IsFraction x) (n0 : 1 ≤ n) (n1 : n ≤ 64) where
  pub round_units : IsUnits (round mode n x) (is_negative x.numerator) n (exponent x) (whole mode n x)
  unfolding round
  round_units = units mode n (is_negative x.numerator) (exponent x) (nat_abs x.numerator) x.denominator x0 n0 n1

  -- the rounding is to x as whole × denominator_at is to numerator_at
  pub round_ratio : Ratio (after mode n x) (before mode n x) (2 ^ (n - 1) * down (exponent x)) (whole mode n x * denominator_at x) (numerator_at n x) (value (round mode n x)).denominator
  unfolding scaled_numerator scaled_denominator
  round_ratio = record {
    scale = mul-pos (pow_pos (n - 1)) (down_pos (exponent x));
    first = omega (arith, ap (λ (m : ℕ). m * x.denominator) round_units.ratio);
    second = omega arith;
  }

  -- the cross products with their sign, and their difference
  pub after_signed : (value (round mode n x)).numerator *ℤ pos x.denominator ≡ signed (is_negative x.numerator) (after mode n x)
  after_signed = ap (λ (z : ℤ). z *ℤ pos x.denominator) round_units.sign ∙ signed_times (is_negative x.numerator) (nat_abs (value (round mode n x)).numerator) x.denominator

  pub before_signed : x.numerator *ℤ pos (value (round mode n x)).denominator ≡ signed (is_negative x.numerator) (before mode n x)
  before_signed =
      ap (λ (z : ℤ). z *ℤ pos (value (round mode n x)).denominator) (sym (signed_abs x.numerator))
      ∙ signed_times (is_negative x.numerator) (nat_abs x.numerator) (value (round mode n x)).denominator

  pub miss : nat_abs (difference (value (round mode n x)) x).numerator ≡ gap (after mode n x) (before mode n x)
  unfolding difference
  miss = rw (after_signed, before_signed) (abs_difference (is_negative x.numerator) (after mode n x) (before mode n x))
