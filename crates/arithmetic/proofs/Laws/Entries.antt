-- What an operation answers once its operands are judged: the row that refuses, or the exact value rounded by the task, with its mark.
use Rattle.std.proofs.Common.{◌≡◌, ℕ, ◌≤◌, sym, ap, ◌∙◌, Ok, Err}
use Rattle.std.specs.Bool.{⊤}
use Rattle.std.specs.declared.result.Result.{Result}
use Rattle.refusals.specs.Row.{row_number}
use Rattle.refusals.specs.declared.Refusal.{Refusal}
use Rattle.numbers.specs.Accuracy.{Marked, refused_by, marked, marked_by}
use Rattle.numbers.specs.Answer.{Outcome, rounded, unless_refused, unless_either_unfit}
use Rattle.numbers.specs.Fraction.{Fraction, IsFraction, Equal, value, sum}
use Rattle.numbers.specs.Number.{is_working}
use Rattle.numbers.specs.Rounding.{precision_of}
use Rattle.numbers.specs.declared.number.Number.{Number}
use Rattle.numbers.specs.declared.task.Task.{Task}
use Rattle.numbers.proofs.Laws.Scaled.{value_fraction}
use Rattle.numbers.proofs.Laws.Fractions.{sum_fraction, sum_equal}
use Rattle.numbers.proofs.Laws.Marked.{same_mark}
use Rattle.arithmetic.specs.Operations.{operation_of}
use Rattle.arithmetic.specs.Private.{operand_value, exact_value, IsExact}
use Rattle.arithmetic.specs.declared.operand.Operand.{Operand}
use Rattle.arithmetic.specs.declared.rounding.Exact.{Exact}
use Rattle.arithmetic.proofs.Laws.Operands.{operand_fraction}

-- an exact value, and another of the same amount
pub exact_equal : (x : Exact) (u v : Fraction) → IsFraction u → IsFraction v → Equal v u → IsExact x u → IsExact x v
unfolding IsExact
exact_equal x u v u0 v0 e h = λ (task : Task) (n0 : 1 ≤ precision_of task) (n1 : precision_of task ≤ 64). h task n0 n1 ∙ sym (same_mark task v u v0 u0 n0 e)

-- the exact sum of two operands is that of the numbers that have their values
pub sum_same : (r : Exact) (a b : Number) (x y : Operand) → Equal (value a) (operand_value x) → Equal (value b) (operand_value y) → IsExact r (sum (operand_value x) (operand_value y)) → IsExact r (sum (value a) (value b))
sum_same r a b x y a-is b-is =
    exact_equal r (sum (operand_value x) (operand_value y)) (sum (value a) (value b)) (sum_fraction (operand_value x) (operand_value y) (operand_fraction x) (operand_fraction y))
    (sum_fraction (value a) (value b) (value_fraction a) (value_fraction b)) (sum_equal (value a) (value b) (operand_value x) (operand_value y) a-is b-is)

-- what is judged of two operands and a precision
abbrev pub IsJudged : Number → Number → ℕ → Result ⊤ Refusal → Type 0
IsJudged a b n judged = (x : Outcome) → unless_refused judged x ≡ unless_either_unfit is_working a b n x

-- by a task: the row that refuses, or the exact value rounded
module _ (exact : Fraction → Fraction → Fraction) (a b : Number) (task : Task) (n : ℕ) (precision : n ≡ precision_of task) (judged : Result ⊤ Refusal) (rows : IsJudged a b n judged) where
  -- the true value
  abbrev v : Fraction
  v = exact (value a) (value b)

  pub task_row : (refusal : Refusal) → judged ≡ Err refusal → refused_by (row_number refusal) ≡ marked v (operation_of exact a b task)
  unfolding marked operation_of unless_refused
  task_row refusal e = rw (← precision) (ap (marked v) (rw e at (rows (rounded task v))))

  pub task_answer : (t : ⊤) → judged ≡ Ok t → 1 ≤ precision_of task → precision_of task ≤ 64 → (x : Exact) → IsExact x v → (out : Marked) → out ≡ marked_by task (exact_value x) → out ≡ marked v (operation_of exact a b task)
  unfolding operation_of IsExact unless_refused
  task_answer t e n0 n1 x is out o = o ∙ is task n0 n1 ∙ rw (← precision) (ap (marked v) (rw e at (rows (rounded task v))))
