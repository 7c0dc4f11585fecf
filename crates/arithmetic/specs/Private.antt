-- The terms of private contracts: the values of operands and of exact values up to a cell. No sentence of document 01 speaks of them, and no promise of a public
-- function cites this file.
use Rattle.std.specs.Prelude.{◌≡◌, ℕ, ◌+◌, ◌≤◌}
use Rattle.numbers.specs.Accuracy.{marked_by}
use Rattle.numbers.specs.Cell.{wide, end_of}
use Rattle.numbers.specs.Fraction.{Fraction, scaled}
use Rattle.numbers.specs.Rounding.{precision_of}
use Rattle.numbers.specs.declared.task.Task.{Task}
use Rattle.arithmetic.specs.declared.operand.Operand.{Operand}
use Rattle.arithmetic.specs.declared.rounding.Exact.{Exact}

-- where the last bit of a two-word magnitude stands at exponent 0: 2^−131,196
unfoldable pub last_bit : ℕ
last_bit = 131196

-- A working number taken apart: sign × significand × 2^(exponent − 65,598), where 65,598 is 65,535 + 63, and twice 65,598 is 131,196.
unfoldable pub operand_value : Operand → Fraction
operand_value a = scaled a.negative a.significand (a.exponent + 65598) last_bit

-- the value that stands for an exact one up to its cell
unfoldable pub exact_value : Exact → Fraction
exact_value x = scaled x.negative (end_of (wide x.cell.magnitude.high x.cell.magnitude.low) x.cell.rest) x.exponent last_bit

-- every task rounds and marks x as the value v
unfoldable pub IsExact : Exact → Fraction → Type 0
IsExact x v = (task : Task) → 1 ≤ precision_of task → precision_of task ≤ 64 → marked_by task (exact_value x) ≡ marked_by task v
