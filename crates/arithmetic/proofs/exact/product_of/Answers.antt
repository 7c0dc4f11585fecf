-- `arithmetic::exact::product_of` meets its contract: the significands' product at the exponents' sum has the value of the operands' product.
use Rattle.std.proofs.Common.{◌≡◌, ℕ, ◌+◌, ◌*◌, ◌≤◌, false, sym, pow_pos}
use lib.Ieee.{unlike}
use Rattle.numbers.specs.Accuracy.{marked_by}
use Rattle.numbers.specs.Rounding.{precision_of}
use Rattle.numbers.specs.Fraction.{product, scaled}
use Rattle.numbers.specs.Cell.{wide, end_of}
use Rattle.numbers.specs.declared.task.Task.{Task}
use Rattle.numbers.proofs.Laws.Fractions.{product_fraction}
use Rattle.numbers.proofs.Laws.Marked.{same_mark}
use Rattle.arithmetic.specs.Private.{last_bit, operand_value, exact_value, IsExact}
use Rattle.arithmetic.specs.declared.operand.Operand.{Operand}
use Rattle.arithmetic.proofs.Laws.Operands.{operand_fraction, product_value}
use Rattle.arithmetic.proofs.exact.product_of.Goals as goal

answers : (a b : Operand) (magnitude : ℕ) → magnitude ≡ a.significand * b.significand → (task : Task) → 1 ≤ precision_of task
    → marked_by task (scaled (unlike a.negative b.negative) (end_of magnitude false) (a.exponent + b.exponent) last_bit) ≡ marked_by task (product (operand_value a) (operand_value b))
unfolding end_of
answers a b magnitude w task n0 =
    rw w
    (sym (same_mark task (product (operand_value a) (operand_value b)) (scaled (unlike a.negative b.negative) (a.significand * b.significand) (a.exponent + b.exponent) last_bit)
    (product_fraction (operand_value a) (operand_value b) (operand_fraction a) (operand_fraction b)) (pow_pos last_bit) n0 (product_value a b)))

pub returns : goal.returns
unfolding IsExact exact_value
returns c = λ (task : Task) (n0 : 1 ≤ precision_of task) (n1 : precision_of task ≤ 64). answers c.args.a c.args.b (wide c.product-magnitude.result.high c.product-magnitude.result.low) c.product-magnitude.ensures task n0
