-- Rounding depends on the value alone: two equal fractions are rounded alike. They lie in one cell of a grid that is chosen fine enough.
use mathlib.Core.Path.{◌≡◌, refl, sym, ap, ◌∙◌}
use mathlib.Core.Bool.{Bool}
use Prim.Native.Nat.{ℕ, zero, suc, ◌+◌, ◌*◌, ◌/◌, ◌%◌, ◌^◌, ◌≤◌, ◌<◌}
use native.Mathlib.Omega.{arith}
use native.Mathlib.Nat.{le_of_lt, le-div_iff_mul-le, mul-le-mul, mul-le-mul_right, eq_of_mul-eq-mul_right}
use lib.Dec.{ltb, lit<}
use lib.IntN.{nat_abs}
use lib.Pow.{pow-add}
use Rattle.numbers.specs.Fraction.{Fraction, IsFraction, Equal}
use Rattle.numbers.specs.Rounding.{whole_of, round, precision_of}
use Rattle.numbers.specs.Answer.{given, rounded, claimed, checked}
use Rattle.numbers.specs.Grid.{InCell, RoundedAlike}
use Rattle.numbers.specs.declared.number.Number.TheVariants.{Zero}
use Rattle.numbers.specs.declared.task.Mode.{Mode}
use Rattle.numbers.specs.declared.task.Task.{Task}
use Rattle.numbers.specs.declared.task.Task.TheVariants.{Round, Exact}
use Rattle.numbers.proofs.Laws.Cell.{cell_ratio, same_cell, one_outcome}
use Rattle.numbers.proofs.Laws.Whole.{cell_of_is, whole_cell, fraction_cell}
use Rattle.numbers.proofs.Laws.Fractions.{equal_magnitudes, equal_signs}
use Rattle.numbers.proofs.Laws.Powers.{below_power}

-- what a / b is made a whole number to, and whether it is one, depend on the quotient alone
module _ (a b c d : ℕ) (b0 : 0 < b) (d0 : 0 < d) (same : a * d ≡ c * b) where
  one_cell : InCell (ltb 0 (a * (2 * 1) % b)) (c * (2 * 1)) (a * (2 * 1) / b) d
  one_cell = cell_ratio (ltb 0 (a * (2 * 1) % b)) (a * (2 * 1)) (a * (2 * 1) / b) b (c * (2 * 1)) d d b d0 b0 (omega arith) (omega arith) (cell_of_is (a * (2 * 1)) b b0)

  pub whole_alone : (mode : Mode) (negative : Bool) → whole_of mode negative a b ≡ whole_of mode negative c d
  whole_alone mode negative =
      whole_cell (ltb 0 (a * (2 * 1) % b)) a b (a * (2 * 1) / b) 1 b0 (lit< tt) (cell_of_is (a * (2 * 1)) b b0) mode negative
      ∙ sym (whole_cell (ltb 0 (a * (2 * 1) % b)) c d (a * (2 * 1) / b) 1 d0 (lit< tt) one_cell mode negative)

  pub fraction_alone : ltb 0 (a % b) ≡ ltb 0 (c % d)
  fraction_alone =
      fraction_cell (ltb 0 (a * (2 * 1) % b)) a b (a * (2 * 1) / b) 1 b0 (lit< tt) (cell_of_is (a * (2 * 1)) b b0)
      ∙ sym (fraction_cell (ltb 0 (a * (2 * 1) % b)) c d (a * (2 * 1) / b) 1 d0 (lit< tt) one_cell)

-- zero stays zero
pub zero_alike : (n : ℕ) (x y : Fraction) → nat_abs x.numerator ≡ 0 → nat_abs y.numerator ≡ 0 → RoundedAlike n x y
unfolding round claimed
zero_alike n x y e f = record { rounds = λ mode. rw (e, f); claims = rw (e, f) }

pub rounded_zero : (task : Task) (x : Fraction) → nat_abs x.numerator ≡ 0 → rounded task x ≡ given Zero
unfolding rounded round claimed checked
rounded_zero (Round r) x e = rw e
rounded_zero (Exact c) x e = rw e

-- the grid 1 / 2^(n + b) is fine enough for a / b
fine_enough : (a b n : ℕ) → 0 < a → 0 < b → 2 ^ n ≤ a * 2 ^ (n + b) / (b * 2 ^ 0)
fine_enough a b n a0 b0 =
    (le-div_iff_mul-le {k = b * 2 ^ 0} (omega arith)).1
    (omega (arith, ap (λ (m : ℕ). a * m) (pow-add 2 n b), mul-le-mul_right (2 ^ n) (mul-le-mul a0 (le_of_lt (below_power b)))))

-- equal fractions are rounded alike, to any number of bits
pub value_alone : (n : ℕ) (x y : Fraction) → 1 ≤ n → IsFraction x → IsFraction y → Equal x y → RoundedAlike n x y
value_alone n x y n0 x0 y0 e = go (nat_abs x.numerator) refl
  where
    cross : nat_abs x.numerator * y.denominator ≡ nat_abs y.numerator * x.denominator
    cross = equal_magnitudes x y e

    go : (a : ℕ) → nat_abs x.numerator ≡ a → RoundedAlike n x y
    go zero k = zero_alike n x y k (eq_of_mul-eq-mul_right x.denominator x0 (nat_abs y.numerator) 0 (omega (arith, cross, ap (λ (m : ℕ). m * y.denominator) k)))
    go (suc a) k =
        let o = n + x.denominator in
        let X = nat_abs x.numerator * 2 ^ o in
        let u = x.denominator * 2 ^ 0 in
        let hx : InCell (ltb 0 (X % u)) X (X / u) u = cell_of_is X u (omega arith) in
        same_cell x y (ltb 0 (X % u)) 0 o (X / u) x0 y0 (equal_signs x y x0 y0 e) hx
        (cell_ratio (ltb 0 (X % u)) X (X / u) u (nat_abs y.numerator * 2 ^ o) (y.denominator * 2 ^ 0) y.denominator x.denominator y0 x0
        (omega (arith, ap (λ (m : ℕ). m * 2 ^ o) cross)) (omega arith) hx)
        n n0 (fine_enough (nat_abs x.numerator) x.denominator n (omega arith) x0)

pub same_outcome : (task : Task) (x y : Fraction) → IsFraction x → IsFraction y → 1 ≤ precision_of task → Equal x y → rounded task x ≡ rounded task y
same_outcome task x y x0 y0 n0 e = one_outcome task x y (value_alone (precision_of task) x y n0 x0 y0 e)
