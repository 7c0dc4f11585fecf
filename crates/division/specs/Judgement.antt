-- What is asked before a division: rows 1 to 5.
use Rattle.std.specs.Prelude.{◌≡◌, ℕ, ◌≤◌, true, false}
use Rattle.numbers.specs.Number.{is_admissible}
use Rattle.numbers.specs.Rounding.{precision_of}
use Rattle.numbers.specs.declared.number.Number.{Number}
use Rattle.numbers.specs.declared.task.Task.{Task}
use Rattle.division.specs.Quotient.{is_zero}

-- No row from 1 to 5 applies: "divide takes admissible ones and code 0 to 5", the precision is from 1 to 64, and the divisor is not zero.
pub record IsTaken (p d : Number) (code n : ℕ) : Type 0 where
  pub mode : code ≤ 5
  pub precise : (1 ≤ n) × (n ≤ 64)
  pub dividend : is_admissible p ≡ true
  pub divisor : is_admissible d ≡ true
  pub nonzero : is_zero d ≡ false

-- a task with a precision from 1 to 64, for private contracts
abbrev pub IsTask : Task → Type 0
IsTask task = (1 ≤ precision_of task) × (precision_of task ≤ 64)
