-- The exact product of two numbers: the operands have the numbers' values.
use Rattle.numbers.specs.Fraction.{Equal, value, product}
use Rattle.numbers.specs.declared.number.Number.{Number}
use Rattle.numbers.proofs.Laws.Scaled.{value_fraction}
use Rattle.numbers.proofs.Laws.Fractions.{product_fraction, product_equal}
use Rattle.arithmetic.specs.Private.{operand_value, IsExact}
use Rattle.arithmetic.specs.declared.operand.Operand.{Operand}
use Rattle.arithmetic.specs.declared.rounding.Exact.{Exact}
use Rattle.arithmetic.proofs.Laws.Entries.{exact_equal}
use Rattle.arithmetic.proofs.Laws.Operands.{operand_fraction}
use Rattle.arithmetic.proofs.exact.ProductExactly.exact.Goals as goal

same : (r : Exact) (a b : Number) (x y : Operand) → Equal (value a) (operand_value x) → Equal (value b) (operand_value y) → IsExact r (product (operand_value x) (operand_value y)) → IsExact r (product (value a) (value b))
same r a b x y a-is b-is =
    exact_equal r (product (operand_value x) (operand_value y)) (product (value a) (value b)) (product_fraction (operand_value x) (operand_value y) (operand_fraction x) (operand_fraction y))
    (product_fraction (value a) (value b) (value_fraction a) (value_fraction b)) (product_equal (value a) (value b) (operand_value x) (operand_value y) a-is b-is)

pub returns : goal.returns
returns c = same _ _ _ _ _ c.of.ensures c.of-2.ensures c.product_of.ensures
