-- Two fractions of one sign in one cell are rounded alike, on any grid of a power of two that is fine enough.
-- The grid is 2^i / 2^o. The fraction's magnitude a / b lies in the cell F where a × 2^o does on the grid b × 2^i.
use mathlib.Core.Path.{◌≡◌, sym, ap, ◌∙◌}
use mathlib.Core.Bool.{Bool, true, false}
use Prim.Native.Nat.{ℕ, suc, ◌+◌, ◌-◌, ◌*◌, ◌%◌, ◌^◌, ◌≤◌, ◌<◌}
use native.Mathlib.Omega.{arith}
use native.Mathlib.Nat.{lt_of_lt_of_le, mul-le-mul_right, mul-lt-mul_of_pos_right, lt_of_mul-lt-mul_right, eq_of_mul-eq-mul_right, pow-succ', mul-le-mul}
use lib.Dec.{eqb}
use borrow.Author.Tests.{ne_eqb}
use lib.IntN.{ℤ, nat_abs}
use lib.Pow.{pow-add, pow_pos}
use lib.Ieee.{up, down, minus}
use lib.Ieee.Digits.{minus_val}
use lib.Ieee.Fits.{down_pos}
use Rattle.numbers.specs.Number.{is_working_exponent}
use Rattle.numbers.specs.Fraction.{Fraction, IsFraction, is_negative}
use Rattle.numbers.specs.Rounding.{exponent_of, scaled_numerator, scaled_denominator, whole_of, placed, rounded_at, round, has_at_most_bits, precision_of}
use Rattle.numbers.specs.Answer.{rounded, claimed, checked, judged}
use Rattle.numbers.specs.Grid.{InCell, bit_of, RoundedAlike}
use Rattle.numbers.specs.declared.task.Mode.{Mode}
use Rattle.numbers.specs.declared.task.Mode.TheVariants.{Trunc}
use Rattle.numbers.specs.declared.task.Task.{Task}
use Rattle.numbers.specs.declared.task.Task.TheVariants.{Round, Exact}
use Rattle.numbers.proofs.Laws.Exponent.{exponent_unique, scaled_positive}
use Rattle.numbers.proofs.Laws.Powers.{power_parts, top_bit, below_top}
use Rattle.numbers.proofs.Laws.Tests.{zero_same}
use Rattle.numbers.proofs.Laws.Whole.{cell_low, cell_high, whole_cell, fraction_cell}

-- a cell depends on the quotient x / u alone
pub cell_ratio : (rest : Bool) (x F u y v c d : ℕ) → 0 < c → 0 < d → x * c ≡ y * d → u * c ≡ v * d → InCell rest x F u → InCell rest y F v
cell_ratio false x F u y v c d c0 d0 e k h =
    eq_of_mul-eq-mul_right d d0 y (F * v) (omega (arith, ap (λ (n : ℕ). n * c) h, ap (λ (n : ℕ). F * n) k))
cell_ratio true x F u y v c d c0 d0 e k h = (
  lt_of_mul-lt-mul_right d (omega (arith, mul-lt-mul_of_pos_right {k = c} h.0 c0, ap (λ (n : ℕ). F * n) k)),
  lt_of_mul-lt-mul_right d (omega (arith, mul-lt-mul_of_pos_right {k = c} h.1 c0, ap (λ (n : ℕ). F * n) k)),
)

-- the magnitude a / b in the cell F, which has its top bit at t, rounded to n bits
module _ (rest : Bool) (a b i o F t n : ℕ) (b0 : 0 < b) (n0 : 1 ≤ n) (fine : n ≤ t) (t0 : 2 ^ t ≤ F) (t1 : F < 2 ^ suc t) (h : InCell rest (a * 2 ^ o) F (b * 2 ^ i)) where
  low : b * 2 ^ (t + i) ≤ a * 2 ^ o
  low = omega (arith, mul-le-mul_right (b * 2 ^ i) t0, cell_low rest (a * 2 ^ o) F (b * 2 ^ i) h, ap (λ (m : ℕ). b * m) (pow-add 2 t i))

  high : a * 2 ^ o < 2 * (b * 2 ^ (t + i))
  high =
      omega (
        arith,
        mul-le-mul_right (b * 2 ^ i) t1,
        cell_high rest (a * 2 ^ o) F (b * 2 ^ i) (mul-le-mul b0 (pow_pos i)) h,
        ap (λ (m : ℕ). b * m) (pow-add 2 t i),
        ap (λ (m : ℕ). m * (b * 2 ^ i)) (pow-succ' 2 t),
      )

  pub above_zero : 0 < a
  above_zero = lt_of_mul-lt-mul_right (2 ^ o) (lt_of_lt_of_le (omega (arith, mul-le-mul b0 (pow_pos (t + i)))) low)

  pub exponent_cell : exponent_of a b ≡ minus (t + i) o
  exponent_cell = exponent_unique a b (t + i) o above_zero b0 low high

  scaled : (e : ℤ) → b * up e * 2 ^ o ≡ b * 2 ^ (t + i) * down e → InCell rest (scaled_numerator n e a * (2 * 2 ^ (t - n))) F (scaled_denominator e b)
  unfolding scaled_numerator scaled_denominator
  scaled e k =
      cell_ratio rest (a * 2 ^ o) F (b * 2 ^ i) _ _ (2 ^ t * down e) (2 ^ o) (mul-le-mul (pow_pos t) (down_pos e)) (pow_pos o)
      (omega (arith, ap (λ (m : ℕ). a * 2 ^ o * down e * m) (power_parts n t n0 fine)))
      (omega (arith, k, ap (λ (m : ℕ). b * down e * m) (pow-add 2 t i)))
      h

  -- the whole number and the claim, each from the cell
  pub whole_at : (mode : Mode) (negative : Bool) → whole_of mode negative (scaled_numerator n (minus (t + i) o) a) (scaled_denominator (minus (t + i) o) b) ≡ whole_of mode negative (2 * F + bit_of rest) (2 * (2 * 2 ^ (t - n)))
  whole_at mode negative =
      whole_cell rest (scaled_numerator n (minus (t + i) o) a) (scaled_denominator (minus (t + i) o) b) F (2 ^ (t - n)) (scaled_positive (minus (t + i) o) b b0) (pow_pos (t - n))
      (scaled (minus (t + i) o) (minus_val b (t + i) o)) mode negative

  pub bits_at : has_at_most_bits n a b ≡ eqb ((2 * F + bit_of rest) % (2 * (2 * 2 ^ (t - n)))) 0
  unfolding has_at_most_bits
  bits_at =
      rw exponent_cell
      (zero_same (scaled_numerator n (minus (t + i) o) a % scaled_denominator (minus (t + i) o) b) ((2 * F + bit_of rest) % (2 * (2 * 2 ^ (t - n))))
      (fraction_cell rest (scaled_numerator n (minus (t + i) o) a) (scaled_denominator (minus (t + i) o) b) F (2 ^ (t - n)) (scaled_positive (minus (t + i) o) b b0) (pow_pos (t - n))
      (scaled (minus (t + i) o) (minus_val b (t + i) o))))

-- a fraction in the cell F, rounded and claimed
module _ (x : Fraction) (rest : Bool) (i o F t n : ℕ) (b0 : IsFraction x) (n0 : 1 ≤ n) (fine : n ≤ t) (t0 : 2 ^ t ≤ F) (t1 : F < 2 ^ suc t)
    (h : InCell rest (nat_abs x.numerator * 2 ^ o) F (x.denominator * 2 ^ i)) where
  not_zero : eqb (nat_abs x.numerator) 0 ≡ false
  not_zero = ne_eqb (nat_abs x.numerator) 0 (λ (z : nat_abs x.numerator ≡ 0). omega (arith, above_zero rest (nat_abs x.numerator) x.denominator i o F t n b0 n0 fine t0 t1 h))

  pub round_cell : (mode : Mode) → round mode n x ≡ placed (is_negative x.numerator) (minus (t + i) o) n (whole_of mode (is_negative x.numerator) (2 * F + bit_of rest) (2 * (2 * 2 ^ (t - n))))
  unfolding round rounded_at
  round_cell mode =
      rw (
        not_zero,
        exponent_cell rest (nat_abs x.numerator) x.denominator i o F t n b0 n0 fine t0 t1 h,
        whole_at rest (nat_abs x.numerator) x.denominator i o F t n b0 n0 fine t0 t1 h mode (is_negative x.numerator),
      )

  pub claim_cell : claimed n x ≡ judged (is_working_exponent (minus (t + i) o)) (eqb ((2 * F + bit_of rest) % (2 * (2 * 2 ^ (t - n)))) 0) (round Trunc n x)
  unfolding claimed
  claim_cell =
      rw (
        not_zero,
        exponent_cell rest (nat_abs x.numerator) x.denominator i o F t n b0 n0 fine t0 t1 h,
        bits_at rest (nat_abs x.numerator) x.denominator i o F t n b0 n0 fine t0 t1 h,
      )

-- Two fractions with one sign in one cell, on a grid of which the cell has more than n bits, are rounded alike to n bits.
module _ (x y : Fraction) (rest : Bool) (i o F : ℕ) (x0 : IsFraction x) (y0 : IsFraction y) (sign : is_negative x.numerator ≡ is_negative y.numerator)
    (hx : InCell rest (nat_abs x.numerator * 2 ^ o) F (x.denominator * 2 ^ i)) (hy : InCell rest (nat_abs y.numerator * 2 ^ o) F (y.denominator * 2 ^ i)) where
  same_round : (mode : Mode) (n : ℕ) → 1 ≤ n → 2 ^ n ≤ F → round mode n x ≡ round mode n y
  same_round mode n n0 fine =
      let b = top_bit F (lt_of_lt_of_le (pow_pos n) fine) in
      let l : n ≤ b.0 = below_top n b.0 F fine b.2 in
      round_cell x rest i o F b.0 n x0 n0 l b.1 b.2 hx mode
      ∙ ap (λ (s : Bool). placed s (minus (b.0 + i) o) n (whole_of mode s (2 * F + bit_of rest) (2 * (2 * 2 ^ (b.0 - n))))) sign
      ∙ sym (round_cell y rest i o F b.0 n y0 n0 l b.1 b.2 hy mode)

  pub same_cell : (n : ℕ) → 1 ≤ n → 2 ^ n ≤ F → RoundedAlike n x y
  same_cell n n0 fine =
      let b = top_bit F (lt_of_lt_of_le (pow_pos n) fine) in
      let l : n ≤ b.0 = below_top n b.0 F fine b.2 in
      record {
        rounds = λ mode. same_round mode n n0 fine;
        claims =
            claim_cell x rest i o F b.0 n x0 n0 l b.1 b.2 hx
            ∙ ap (judged (is_working_exponent (minus (b.0 + i) o)) (eqb ((2 * F + bit_of rest) % (2 * (2 * 2 ^ (b.0 - n)))) 0)) (same_round Trunc n n0 fine)
            ∙ sym (claim_cell y rest i o F b.0 n y0 n0 l b.1 b.2 hy);
      }

-- and so every task has one outcome
pub one_outcome : (task : Task) (x y : Fraction) → RoundedAlike (precision_of task) x y → rounded task x ≡ rounded task y
unfolding rounded
one_outcome (Round r) x y h = ap checked (h.rounds r.mode)
one_outcome (Exact c) x y h = h.claims
