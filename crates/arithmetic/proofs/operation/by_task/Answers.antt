-- `arithmetic::operation::by_task` meets its contract: the rows in their order, and then the exact value, rounded.
use Rattle.std.proofs.lemmas.Result.{err_from_is_err_and}
use Rattle.numbers.specs.Accuracy.{marked_answer}
use Rattle.numbers.proofs.Laws.Refusals.{precision_range}
use Rattle.arithmetic.proofs.Laws.Entries.{task_row, task_answer}
use Rattle.arithmetic.proofs.operation.by_task.Goals as goal

pub returns-in_err-judged : goal.returns-in_err-judged
unfolding marked_answer
returns-in_err-judged g c =
    let e = err_from_is_err_and c.from_residual.result c.from_residual.ensures.1 in
    rw (e.1, e.2) (task_row (g.E.Exactly.of c.args.operation) _ _ _ _ c.precision_of.ensures _ c.judged.ensures.row _ c.in_err-judged.was)

pub rounded-requires : goal.rounded-requires
rounded-requires g c = let fit = c.in_ok-judged.ensures.fit in rw c.precision_of.ensures at (precision_range _ fit.2)

pub returns : goal.returns
returns g c =
    let n = rounded-requires g c.before in
    task_answer (g.E.Exactly.of c.args.operation) _ _ _ _ c.precision_of.ensures _ c.judged.ensures.row _ c.in_ok-judged.was n.0 n.1 _ c.exact.ensures _ c.rounded.ensures
