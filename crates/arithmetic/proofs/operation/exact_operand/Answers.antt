-- `arithmetic::operation::exact_operand` meets its contract: the significand is the low word of a magnitude.
use Rattle.std.proofs.Common.{◌≡◌, ℕ, ◌+◌, ◌≤◌, false, ap, arith}
use Rattle.numbers.specs.Accuracy.{marked_by}
use Rattle.numbers.specs.Cell.{wide, end_of}
use Rattle.numbers.specs.Rounding.{precision_of}
use Rattle.numbers.specs.Fraction.{scaled}
use Rattle.numbers.specs.declared.task.Task.{Task}
use Rattle.arithmetic.specs.Private.{last_bit, operand_value, exact_value, IsExact}
use Rattle.arithmetic.proofs.operation.exact_operand.Goals as goal

-- a low word alone
low_alone : (low : ℕ) → end_of (wide 0 low) false ≡ low
unfolding wide end_of
low_alone low = omega arith

pub returns : goal.returns
unfolding IsExact exact_value operand_value
returns c = λ (task : Task) (n0 : 1 ≤ precision_of task) (n1 : precision_of task ≤ 64). ap (λ (F : ℕ). marked_by task (scaled c.args.a.negative F (c.args.a.exponent + 65598) last_bit)) (low_alone c.args.a.significand)
