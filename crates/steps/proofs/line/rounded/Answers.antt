-- `steps::line::rounded` meets its contract: a refused operand is handed on, and a number is rounded.
use Rattle.std.proofs.Common.{sym, Ok, Err}
use Rattle.std.proofs.lemmas.Result.{err_from_is_err_and}
use Rattle.numbers.specs.Accuracy.{marked_answer, unmarked}
use Rattle.numbers.specs.Fraction.{value}
use Rattle.numbers.proofs.Laws.Fits.{given_working}
use Rattle.numbers.proofs.Laws.Scaled.{value_fraction}
use Rattle.steps.specs.Run.{line_outcome}
use Rattle.steps.specs.Steps.{line_of}
use Rattle.steps.proofs.Laws.Combined.{line_given}
use Rattle.steps.proofs.line.rounded.Goals as goal

pub returns-in_err-x : goal.returns-in_err-x
unfolding line_outcome line_of
returns-in_err-x c =
    let p = err_from_is_err_and c.from_residual.result c.from_residual.ensures.1 in
    rw (p.1, p.2, c.in_err-x.was)

pub returns-in_err-r : goal.returns-in_err-r
unfolding line_outcome line_of marked_answer unmarked
returns-in_err-r c =
    let p = err_from_is_err_and c.from_residual-in_err-r.result c.from_residual-in_err-r.ensures.1 in
    rw (p.1, p.2, c.in_ok-x.was) (line_given _ c.args.task.precise c.in_ok-x.x.number (Err c.in_err-r.field-0.0) c.in_ok-x.x.fit c.in_err-r.ensures)

pub invariant_of-result : goal.invariant_of-result
unfolding marked_answer unmarked
invariant_of-result c = record {
  fit =
      given_working _ (value c.in_ok-x.x.number) _ (value_fraction c.in_ok-x.x.number) c.args.task.precise.0 c.args.task.precise.1
      (sym (line_given _ c.args.task.precise c.in_ok-x.x.number (Ok c.in_ok-r.r) c.in_ok-x.x.fit c.in_ok-r.ensures));
}

pub returns : goal.returns
unfolding line_outcome line_of marked_answer unmarked
returns c = rw c.in_ok-x.was (line_given _ c.args.task.precise c.in_ok-x.x.number (Ok c.in_ok-r.r) c.in_ok-x.x.fit c.in_ok-r.ensures)
