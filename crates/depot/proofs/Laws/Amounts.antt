-- Amounts: fractions that are zero or positive. Their sums and parts are amounts, and their order is that of whole numbers.
use mathlib.Core.Path.{◌≡◌, refl}
use mathlib.Core.Logic.{◌↔◌}
use Prim.Native.Nat.{ℕ, ◌+◌, ◌*◌, ◌≤◌, ◌<◌}
use native.Mathlib.Nat.{mul-pos}
use native.Mathlib.Omega.{arith}
use lib.Dec.{lit<}
use lib.IntN.{pos, nat_abs}
use Rattle.numbers.specs.Fraction.{Fraction, IsFraction, AtMost, sum, divided_by, quotient}
use Rattle.numbers.proofs.Laws.Pairs.{IsPair, at_most_pair}
use Rattle.numbers.proofs.Laws.Splits.{pos_split}
use Rattle.depot.specs.Figures.{whole}

-- the numerator of a fraction as a whole number, without its sign
abbrev pub numerator_of : Fraction → ℕ
numerator_of x = nat_abs x.numerator

pub record IsAmount (x : Fraction) : Type 0 where
  pub plus : x.numerator ≡ pos (numerator_of x)
  pub fraction : IsFraction x

-- by parts
pub amount : (a b : ℕ) → 0 < b → IsAmount (record { numerator = pos a; denominator = b })
amount a b b0 = record { plus = refl; fraction = b0 }

pub whole_amount : (n : ℕ) → IsAmount (whole n)
unfolding whole
whole_amount n = amount n 1 (lit< tt)

-- as a difference from nothing
pub amount_pair : (x : Fraction) → IsAmount x → IsPair x (numerator_of x) 0 x.denominator
amount_pair x ax = record { upper = rw ax.plus (pos_split (numerator_of x)); lower = refl }

-- the order of two amounts is that of their cross products
pub at_most : (x y : Fraction) → IsAmount x → IsAmount y → AtMost x y ↔ (numerator_of x * y.denominator ≤ numerator_of y * x.denominator)
at_most x y ax ay = let order = at_most_pair (amount_pair x ax) (amount_pair y ay) in ((λ h. omega (arith, order.0 h)), (λ h. order.1 (omega arith)))

-- the sum of two amounts
pub sum_numerator : (x y : Fraction) → IsAmount x → IsAmount y → numerator_of (sum x y) ≡ numerator_of x * y.denominator + numerator_of y * x.denominator
unfolding sum
sum_numerator x y ax ay = rw (ax.plus, ay.plus)

pub sum_amount : (x y : Fraction) → IsAmount x → IsAmount y → IsAmount (sum x y)
unfolding sum
sum_amount x y ax ay = record { plus = rw (ax.plus, ay.plus); fraction = mul-pos ax.fraction ay.fraction }

-- an amount divided by a whole number
pub part_numerator : (x : Fraction) (n : ℕ) → IsAmount x → numerator_of (quotient x (whole n)) ≡ numerator_of x
unfolding quotient divided_by whole
part_numerator x n ax = rw ax.plus (let e : numerator_of x * 1 ≡ numerator_of x = omega arith in e)

pub part_denominator : (x : Fraction) (n : ℕ) → (quotient x (whole n)).denominator ≡ x.denominator * n
unfolding quotient divided_by whole
part_denominator x n = refl

pub part_amount : (x : Fraction) (n : ℕ) → 0 < n → IsAmount x → IsAmount (quotient x (whole n))
unfolding quotient divided_by whole
part_amount x n n0 ax = record { plus = rw ax.plus; fraction = mul-pos ax.fraction n0 }
