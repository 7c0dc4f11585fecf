-- What the operations give of working numbers: what a task gives of the exact value, which is working or refused.
use mathlib.Core.Path.{◌≡◌, sym, subst, ap, ◌∙◌}
use mathlib.Core.Bool.{true}
use Rattle.numbers.specs.Accuracy.{marked, marked_answer, unmarked, outcome}
use Rattle.numbers.specs.Answer.{Outcome, given, refused, rounded}
use Rattle.numbers.specs.Fraction.{Fraction, IsFraction, value}
use Rattle.numbers.specs.Number.{is_working}
use Rattle.numbers.specs.Rounding.{precision_of, is_precision}
use Rattle.std.specs.declared.result.Result.{Result}
use Rattle.refusals.specs.declared.Refusal.{Refusal}
use Rattle.numbers.specs.declared.answer.Rounded.{Rounded}
use Rattle.numbers.specs.declared.number.Number.{Number}
use Rattle.numbers.specs.declared.task.Task.{Task}
use Rattle.numbers.proofs.Laws.Fits.{given_working}
use Rattle.numbers.proofs.Laws.Marked.{unmark}
use Rattle.numbers.proofs.Laws.Refusals.{range_precision, first_fit, none_unfit}
use Rattle.arithmetic.specs.Operations.{exact_of, operation_of, rounding_of}
use Rattle.arithmetic.specs.declared.operation.Operation.{Operation}
use Rattle.division.specs.Judgement.{IsTask}
use Rattle.steps.specs.Run.{IsResult}

-- a result that is given is working
pub as_given : (y : Outcome) (x : Number) → y ≡ given x → IsResult y → is_working x ≡ true
unfolding IsResult
as_given y x is fit = subst IsResult is fit

-- what a task gives is a result
pub given_result : (task : Task) (x : Fraction) (y : Outcome) → IsFraction x → IsTask task → y ≡ rounded task x → IsResult y
unfolding IsResult
given_result task x (given y) x0 n e = given_working task x y x0 n.0 n.1 (sym e)
given_result task x (refused k) x0 n e = tt

module _ (task : Task) (fit : IsTask task) where
  precise : is_precision (precision_of task) ≡ true
  precise = range_precision (precision_of task) fit.0 fit.1

  -- what the operations answer of working numbers
  pub line_given : (x : Number) (r : Result Rounded Refusal) → is_working x ≡ true → marked_answer r ≡ marked (value x) (rounding_of x task) → outcome r ≡ rounded task (value x)
  unfolding rounding_of
  line_given x r is e =
      ap unmarked e ∙ unmark (value x) _ ∙ sym (first_fit is_working x (precision_of task) (rounded task (value x)) precise is)

  pub both_given : (operation : Operation) (x y : Number) (r : Result Rounded Refusal) → is_working x ≡ true → is_working y ≡ true
      → marked_answer r ≡ marked (exact_of operation (value x) (value y)) (operation_of (exact_of operation) x y task) → outcome r ≡ rounded task (exact_of operation (value x) (value y))
  unfolding operation_of
  both_given operation x y r is is' e =
      let exact = exact_of operation (value x) (value y) in
      ap unmarked e ∙ unmark exact _ ∙ sym (none_unfit is_working x y (precision_of task) (rounded task exact) precise is is')
