-- Steps 30 to 32: the sum of the four digits is rounded as the exact quotient.
use mathlib.Core.Path.{◌≡◌, refl, ◌∙◌}
use mathlib.Core.Bool.{false}
use Prim.Native.Nat.{ℕ, zero, suc, ◌+◌, ◌-◌, ◌*◌, ◌^◌, ◌≤◌, ◌<◌}
use native.Mathlib.Nat.{le_refl, mul-le-mul_right}
use native.Mathlib.Omega.{arith}
use lib.IntN.{nat_abs}
use lib.Pow.{pow-add, pow_mono}
use Rattle.numbers.specs.Fraction.{Fraction, IsFraction, Equal, AtMost, Below, value, sum, product, quotient, magnitude, scaled}
use Rattle.numbers.specs.Grid.{Alike, RoundedAlike}
use Rattle.numbers.specs.Rounding.{round, by_mode}
use Rattle.numbers.specs.Answer.{given, rounded}
use Rattle.numbers.specs.declared.number.Number.{Number}
use Rattle.numbers.specs.declared.task.Mode.{Mode}
use Rattle.numbers.specs.declared.task.Mode.TheVariants.{Sticky}
use Rattle.numbers.proofs.Laws.Alike.{alike_rounds, alike_coarser, alike_equal, alike_back, alike_through, alike_shift, alike_zero, short_alike}
use Rattle.numbers.proofs.Laws.Cell.{one_outcome}
use Rattle.numbers.proofs.Laws.Fractions.{sum_fraction, sum_swap, quotient_fraction, quotient_zero}
use Rattle.numbers.proofs.Laws.Value.{zero_alike}
use Rattle.numbers.proofs.Laws.Multiples.{IsMultiple, multiple_of, multiple_finer, multiple_sum, multiple_below, multiple_given, multiple_rounded}
use Rattle.numbers.proofs.Laws.Pairs.{quotient_next}
use Rattle.numbers.proofs.Laws.Scaled.{below_scaled, reaches_scaled, value_fraction}
use Rattle.numbers.proofs.Laws.Sticky.{sticky_alike}
use Rattle.division.proofs.Laws.Range.{lowest_admissible, highest_admissible}
use Rattle.steps.proofs.Laws.Terms.{IsDigit, IsLast, lowest_after}

-- the digits of p / d on their grids, and the remainders between them
pub record HasFourDigits (b : ℕ) (p d q0 q1 q2 q3 : Number) : Type 0 where
  pub p1 : Number
  pub p2 : Number
  pub p3 : Number
  pub g0 : ℕ
  pub g1 : ℕ
  pub g2 : ℕ
  pub g3 : ℕ
  pub divisor : 0 < nat_abs (value d).numerator
  pub first : Equal (value p) (sum (product (value q0) (value d)) (value p1))
  pub second : Equal (value p1) (sum (product (value q1) (value d)) (value p2))
  pub third : Equal (value p2) (sum (product (value q2) (value d)) (value p3))
  pub digit_0 : IsDigit b g0 q0
  pub digit_1 : IsDigit b g1 q1
  pub digit_2 : IsDigit b g2 q2
  pub digit_3 : IsDigit b g3 q3
  pub finer_1 : g1 + 23 ≤ g0
  pub finer_2 : g2 + 23 ≤ g1
  pub finer_3 : g3 + 23 ≤ g2
  pub highest : g0 ≤ highest_admissible + 65
  pub lowest : lowest_after 3 ≤ g3
  pub below_unit : Below (magnitude (quotient (value p3) (value d))) (scaled false 1 g2 (b + 64))
  pub last : IsLast d p3 q3
  pub reaches : 0 < nat_abs (value p).numerator → AtMost (scaled false (2 ^ 23) g0 (b + 64)) (magnitude (quotient (value p) (value d)))

-- the three sums
pub record HasSum (p d q0 q1 q2 q3 : Number) : Type 0 where
  pub qq2 : Number
  pub qq1 : Number
  pub step_30 : rounded (by_mode Sticky 64) (sum (value q2) (value q3)) ≡ given qq2
  pub step_31 : rounded (by_mode Sticky 64) (sum (value qq2) (value q1)) ≡ given qq1
  pub step_32 : (mode : Mode) (n : ℕ) → 1 ≤ n → n ≤ 64
      → (y : Number) × (rounded (by_mode mode n) (sum (value qq1) (value q0)) ≡ given y) × (rounded (by_mode mode n) (quotient (value p) (value d)) ≡ given y)

-- ---- a sum that stands for an exact quotient

-- x, a multiple of 2^j / 2^p of so many bits, is not told apart from z by the grid 2^i / 2^o
record Stands (i o j p bits : ℕ) (x z : Fraction) : Type 0 where
  multiple : IsMultiple bits j p x
  alike : Alike i o x z

stands_coarser : {i o j p bits : ℕ} {x z : Fraction} (k : ℕ) → i ≤ k → Stands i o j p bits x z → Stands k o j p bits x z
stands_coarser {i} {o} {x = x} {z = z} k h r =
    record { multiple = r.multiple; alike = alike_coarser i o k o x z (omega arith) r.alike }

-- its sticky rounding stands for z too
stands_sticky : {i o j p bits : ℕ} {x z : Fraction} → Stands i o j p bits x z → bits + j + o < 63 + i + p → Stands i o j (p + 63) (bits + 64) (value (round Sticky 64 x)) z
stands_sticky {i} {o} {x = x} {z} r small = record {
  multiple = multiple_rounded Sticky 64 r.multiple (omega arith) (omega arith);
  alike =
      alike_through i o (value (round Sticky 64 x)) x z
      (sticky_alike i o 64 x r.multiple.amount.positive (omega arith) (omega arith) (multiple_below 63 i o r.multiple small))
      r.alike;
}

-- where r stands for the rest y / d, and q is a digit on the grid 2^g / 2^o, their sum stands for x / d, x being q d + y
stands_sum : {i o j p bits : ℕ} (g c : ℕ) (x y d r q : Number) → i ≤ g → g + p ≡ c + j + o → bits ≤ 24 + c → 0 < nat_abs (value d).numerator
    → Equal (value x) (sum (product (value q) (value d)) (value y)) → IsMultiple 24 g o (value q) → Stands i o j p bits (value r) (quotient (value y) (value d))
    → Stands i o j p (suc (24 + c)) (sum (value r) (value q)) (quotient (value x) (value d))
stands_sum {i} {o} {j} {p} {bits} g c x y d r q fine level enough divisor step digit rest = record {
  multiple = multiple_sum (multiple_finer 0 rest.multiple (omega arith) (omega arith)) (multiple_finer c digit level (omega arith));
  alike =
      alike_through i o (sum (value r) (value q)) (sum left (value q)) whole
      (alike_shift i o (value r) left (value q) on_grid.negative on_grid.whole (value_fraction q) on_grid.amount.amount rest.alike)
      (alike_back i o whole (sum left (value q))
      (alike_equal i o whole (sum left (value q)) (quotient_fraction (value x) (value d) (value_fraction x) divisor)
      (sum_fraction left (value q) (quotient_fraction (value y) (value d) (value_fraction y) divisor) (value_fraction q))
      (quotient_next (value x) (value y) (value q) (value d) step)));
}
  where
    whole : Fraction
    whole = quotient (value x) (value d)

    left : Fraction
    left = quotient (value y) (value d)

    on_grid : IsMultiple (24 + (g - i)) i o (value q)
    on_grid = multiple_finer (g - i) digit (omega arith) (omega arith)

-- ---- the digits

digit_multiple : {b g : ℕ} {q : Number} → IsDigit b g q → IsMultiple 24 g (b + 64) (value q)
digit_multiple h = multiple_of h.amount h.bits

fine_enough : (n i g d X : ℕ) → n + i ≤ 23 + g → 2 ^ 23 * 2 ^ g * d ≤ X → 2 ^ n * (d * 2 ^ i) ≤ X
fine_enough n i g d X l h =
    let k : 2 ^ n * 2 ^ i ≤ 2 ^ 23 * 2 ^ g = rw (← pow-add 2 n i, ← pow-add 2 23 g) (pow_mono l) in
    omega (arith, mul-le-mul_right d k)

-- the sum of two, sticky 64
abbrev together : Number → Number → Number
together r q = round Sticky 64 (sum (value r) (value q))

-- ---- the three sums

module _ {b : ℕ} {p d q0 q1 q2 q3 : Number} (h : HasFourDigits b p d q0 q1 q2 q3) where
  whole_fraction : (x : Number) → IsFraction (quotient (value x) (value d))
  whole_fraction x = quotient_fraction (value x) (value d) (value_fraction x) h.divisor

  last_rest : Stands h.g2 (b + 64) h.g3 (b + 64) 24 (value q3) (quotient (value h.p3) (value d))
  last_rest = record {
    multiple = digit_multiple h.digit_3;
    alike =
        let x = quotient (value h.p3) (value d) in
        short_alike h.g2 (b + 64) (value q3) x (value_fraction q3) (whole_fraction h.p3) h.last.sign h.last.short
        (λ (none : nat_abs (value q3).numerator ≡ 0). quotient_zero (value h.p3) (value d) (h.last.zero_only none))
        (omega (arith, (below_scaled x 1 h.g2 (b + 64)).0 h.below_unit));
  }

  third_total : Stands h.g2 (b + 64) h.g3 (b + 64) (suc (24 + (h.g2 - h.g3))) (sum (value q3) (value q2)) (quotient (value h.p2) (value d))
  third_total =
      stands_sum h.g2 (h.g2 - h.g3) h.p2 h.p3 d q3 q2 (le_refl h.g2) (omega arith) (omega arith) h.divisor h.third
      (digit_multiple h.digit_2) last_rest

  -- from here on the grid is 2^23 times finer than the second digit's
  second_total : Stands (h.g1 - 23) (b + 64) h.g3 (b + 64 + 63) (suc (24 + (h.g1 - h.g3 + 63)))
      (sum (value (together q3 q2)) (value q1)) (quotient (value h.p1) (value d))
  second_total =
      stands_sum h.g1 (h.g1 - h.g3 + 63) h.p1 h.p2 d (together q3 q2) q1 (omega arith) (omega arith) (omega arith) h.divisor h.second
      (digit_multiple h.digit_1)
      (stands_coarser (h.g1 - 23) (omega arith) (stands_sticky third_total (omega arith)))

  first_total : Stands (h.g1 - 23) (b + 64) h.g3 (b + 64 + 63 + 63) (suc (24 + (h.g0 - h.g3 + 126)))
      (sum (value (together (together q3 q2) q1)) (value q0)) (quotient (value p) (value d))
  first_total =
      stands_sum h.g0 (h.g0 - h.g3 + 126) p h.p1 d (together (together q3 q2) q1) q0 (omega arith) (omega arith) (omega arith) h.divisor h.first
      (digit_multiple h.digit_0)
      (stands_sticky second_total (omega arith))

  -- the last sum is rounded as p / d
  rounded_too : (n : ℕ) → 1 ≤ n → n ≤ 64 → RoundedAlike n (quotient (value p) (value d)) (sum (value (together (together q3 q2) q1)) (value q0))
  rounded_too n n0 n1 = go (nat_abs (value p).numerator) h.reaches refl
    where
      x : Fraction
      x = quotient (value p) (value d)

      y : Fraction
      y = sum (value (together (together q3 q2) q1)) (value q0)

      alike : Alike (h.g1 - 23) (b + 64) x y
      alike = alike_back (h.g1 - 23) (b + 64) y x first_total.alike

      go : (a : ℕ) → (0 < a → AtMost (scaled false (2 ^ 23) h.g0 (b + 64)) (magnitude x)) → nat_abs (value p).numerator ≡ a → RoundedAlike n x y
      go zero reaches e = let none = quotient_zero (value p) (value d) e in zero_alike n x y none (alike_zero (h.g1 - 23) (b + 64) x y (whole_fraction p) first_total.multiple.amount.positive alike none)
      go (suc a) reaches e =
          alike_rounds n x y (h.g1 - 23) (b + 64) n0 (whole_fraction p) first_total.multiple.amount.positive
          (fine_enough n (h.g1 - 23) h.g0 x.denominator (nat_abs x.numerator * 2 ^ (b + 64)) (omega arith)
          ((reaches_scaled x (2 ^ 23) h.g0 (b + 64)).0 (reaches (omega arith))))
          alike

  -- The digits' sum, in three steps, is given and is rounded as p / d, in every mode and precision.
  pub digits_sum : lowest_admissible ≤ b → b ≤ highest_admissible → HasSum p d q0 q1 q2 q3
  digits_sum low high = record {
    qq2 = together q3 q2;
    qq1 = together (together q3 q2) q1;
    step_30 = rw (sum_swap (value q2) (value q3)) (multiple_given Sticky 64 third_total.multiple (omega arith) (omega arith) (omega arith) (omega arith));
    step_31 = multiple_given Sticky 64 second_total.multiple (omega arith) (omega arith) (omega arith) (omega arith);
    step_32 = λ mode n n0 n1.
        let y = sum (value (together (together q3 q2) q1)) (value q0) in
        let holds = multiple_given mode n first_total.multiple n0 n1 (omega arith) (omega arith) in
        (round mode n y, holds, one_outcome (by_mode mode n) (quotient (value p) (value d)) y (rounded_too n n0 n1) ∙ holds);
  }
