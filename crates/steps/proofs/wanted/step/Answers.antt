-- `steps::wanted::step` meets its contract: a row that refuses is passed on, and with none the value after the step is.
use Rattle.std.proofs.Common.{◌≡◌, ℕ, true, false, not, cond, sym, ap, ◌∙◌}
use Rattle.std.proofs.lemmas.Result.{err_from_is_err_and}
use Rattle.numbers.specs.Answer.{Outcome, refused, answer_outcome, unless_refused}
use Rattle.numbers.specs.Rounding.{task_of}
use Rattle.numbers.specs.declared.number.Number.{Number}
use Rattle.numbers.specs.declared.task.Task.{Task}
use Rattle.division.specs.Quotient.{unless_indivisible}
use Rattle.division.specs.Judgement.{IsTaken}
use Rattle.division.proofs.Laws.Divisible.{taken, taken_task, divisible_taken}
use Rattle.refusals.specs.Row.{row_number}
use Rattle.steps.specs.Run.{line_outcome}
use Rattle.steps.specs.Steps.{after_step}
use Rattle.steps.specs.Wanted.{is_step, step_of}
use Rattle.steps.proofs.Laws.Run.{step_range}
use Rattle.steps.proofs.wanted.step.Goals as goal

-- row 6
module _ {p d : Number} {code n : ℕ} (is : IsTaken p d code n) (k : ℕ) (answer : Outcome) where
  unknown_step : is_step k ≡ false → refused 6 ≡ unless_indivisible p d code n (cond (not (is_step k)) (refused 6) answer)
  unknown_step h = rw h (taken is (refused 6))

  known_step : is_step k ≡ true → answer ≡ unless_indivisible p d code n (cond (not (is_step k)) (refused 6) answer)
  known_step h = rw h (taken is answer)

pub returns-in_err-judged : goal.returns-in_err-judged
unfolding answer_outcome unless_refused step_of
returns-in_err-judged c =
    let p = err_from_is_err_and c.from_residual.result c.from_residual.ensures.1 in
    rw (p.1, p.2) (c.in_err-judged.ensures _)

pub returns-then-not-is_step : goal.returns-then-not-is_step
unfolding answer_outcome unless_refused row_number step_of
returns-then-not-is_step c =
    unknown_step (divisible_taken _ _ _ _ c.in_ok-judged.ensures) _ _ (sym c.is_step.ensures ∙ c.if-not-is_step.true)

pub invariant_of-value_after : goal.invariant_of-value_after
unfolding unless_refused
invariant_of-value_after c =
    let is = divisible_taken _ _ _ _ c.in_ok-judged.ensures in
    record { fit = is.divisor; nonzero = is.nonzero }

pub invariant_of-task : goal.invariant_of-task
unfolding unless_refused
invariant_of-task c = record { precise = taken_task (divisible_taken _ _ _ _ c.in_ok-judged.ensures) c.task_of.ensures }

pub value_after-requires : goal.value_after-requires
unfolding unless_refused
value_after-requires c =
    let range = step_range _ (sym c.is_step.ensures ∙ c.if-not-is_step.false) in
    ((divisible_taken _ _ _ _ c.in_ok-judged.ensures).dividend, range.0, range.1)

-- the value after the step is the answer
answer_is : {p d : Number} {code n : ℕ} (k : ℕ) {task : Task} {x : Outcome} → IsTaken p d code n → is_step k ≡ true → task ≡ task_of code n → x ≡ after_step p d task k → x ≡ step_of p d code n k
unfolding step_of
answer_is {p} {d} {code} {n} k is known named e =
    e ∙ ap (λ (t : Task). after_step p d t k) named ∙ known_step is k (after_step p d (task_of code n) k) known

pub returns-in_err-value : goal.returns-in_err-value
unfolding answer_outcome unless_refused line_outcome
returns-in_err-value c =
    let p = err_from_is_err_and c.from_residual-in_err-value.result c.from_residual-in_err-value.ensures.1 in
    rw (p.1, p.2)
    (answer_is _ (divisible_taken _ _ _ _ c.in_ok-judged.ensures) (sym c.is_step.ensures ∙ c.if-not-is_step.false) c.task_of.ensures (ap line_outcome (sym c.in_err-value.was) ∙ c.value_after.ensures))

pub returns : goal.returns
unfolding answer_outcome unless_refused line_outcome
returns c =
    answer_is _ (divisible_taken _ _ _ _ c.in_ok-judged.ensures) (sym c.is_step.ensures ∙ c.if-not-is_step.false) c.task_of.ensures (ap line_outcome (sym c.in_ok-value.was) ∙ c.value_after.ensures)
