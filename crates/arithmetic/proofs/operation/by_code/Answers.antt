-- `arithmetic::operation::by_code` meets its contract: row 1, and then by the task.
use Rattle.std.proofs.Common.{ap, ◌∙◌, arith}
use Rattle.refusals.specs.Row.{row_number}
use Rattle.numbers.specs.Accuracy.{marked, marked_answer}
use Rattle.numbers.proofs.Laws.Refusals.{unknown_mode, known_mode}
use Rattle.arithmetic.specs.Operations.{operation_of, coded_of}
use Rattle.arithmetic.proofs.operation.by_code.Goals as goal

pub returns-then-code-gt-LAST_CODE : goal.returns-then-code-gt-LAST_CODE
unfolding marked marked_answer coded_of row_number
returns-then-code-gt-LAST_CODE g c = ap (marked _) (unknown_mode 6 _ _ (omega (arith, c.if-code-gt-LAST_CODE.true)))

pub returns : goal.returns
unfolding coded_of
returns g c = c.by_task.ensures ∙ ap (marked _) (ap (operation_of (g.E.Exactly.of c.args.operation) c.args.a c.args.b) c.task_of.ensures ∙ known_mode 6 _ _ (omega (arith, c.if-code-gt-LAST_CODE.false)))
