-- Request E1, "Mark the exact rates": "Rounding now also says whether its result lies below the true value, equals it or lies above." What an answer
-- says: a number with its accuracy, measured against the exact value, or a refusal.
use Rattle.std.specs.Prelude.{cond, ℕ, Ok, Err}
use Rattle.std.specs.declared.result.Result.{Result}
use Rattle.refusals.specs.Row.{row_number}
use Rattle.refusals.specs.declared.Refusal.{Refusal}
use Rattle.numbers.specs.Fraction.{Fraction, is_equal, is_at_most, value}
use Rattle.numbers.specs.Answer.{Outcome, given, refused, rounded}
use Rattle.numbers.specs.declared.answer.Accuracy.{Accuracy}
use Rattle.numbers.specs.declared.answer.Accuracy.TheVariants as accuracy
use Rattle.numbers.specs.declared.answer.Rounded.{Rounded}
use Rattle.numbers.specs.declared.number.Number.{Number}
use Rattle.numbers.specs.declared.task.Task.{Task}

-- where the result y lies, the true value being x. Signs count: −1/4 lies above −1/3.
unfoldable pub accuracy_of : Fraction → Fraction → Accuracy
accuracy_of y x = cond (is_equal y x) accuracy.Exact (cond (is_at_most y x) accuracy.Below accuracy.Above)

-- a number with its accuracy, or the number of the table's row that refuses
pub data Marked : Type 0 where
  marked_as : Number → Accuracy → Marked
  refused_by : ℕ → Marked

-- an outcome, its number measured against the true value x: numbers and refusals stay
unfoldable pub marked : Fraction → Outcome → Marked
marked x (given y) = marked_as y (accuracy_of (value y) x)
marked x (refused k) = refused_by k

-- the exact value x after its task, measured against x
abbrev pub marked_by : Task → Fraction → Marked
marked_by task x = marked x (rounded task x)

-- "Where an answer is an enum, a definition gives this paper's number and values for each case of the enum"
unfoldable pub marked_answer : Result Rounded Refusal → Marked
marked_answer (Ok r) = marked_as r.number r.accuracy
marked_answer (Err refusal) = refused_by (row_number refusal)

-- the number or the refusal alone, of what is marked and of an answer
unfoldable pub unmarked : Marked → Outcome
unmarked (marked_as y mark) = given y
unmarked (refused_by k) = refused k

abbrev pub outcome : Result Rounded Refusal → Outcome
outcome r = unmarked (marked_answer r)
