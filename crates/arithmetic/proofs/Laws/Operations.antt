-- The exact operations: what each of them gives is a fraction.
use Rattle.numbers.specs.Fraction.{Fraction, IsFraction}
use Rattle.numbers.proofs.Laws.Fractions.{sum_fraction, difference_fraction, product_fraction}
use Rattle.arithmetic.specs.Operations.{exact_of}
use Rattle.arithmetic.specs.declared.operation.Operation.{Operation}
use Rattle.arithmetic.specs.declared.operation.Operation.TheVariants.{Sum, Difference, Product}

pub exact_fraction : (operation : Operation) (x y : Fraction) → IsFraction x → IsFraction y → IsFraction (exact_of operation x y)
exact_fraction Sum = sum_fraction
exact_fraction Difference = difference_fraction
exact_fraction Product = product_fraction
