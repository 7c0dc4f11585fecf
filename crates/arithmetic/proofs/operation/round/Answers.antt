-- `arithmetic::operation::round` meets its contract: rows 2 and 3, and then the operand, which has the number's value.
use Rattle.std.proofs.Common.{◌≡◌, true, sym, ap, ◌∙◌}
use Rattle.refusals.specs.Row.{row_number}
use Rattle.numbers.specs.Accuracy.{marked, marked_answer}
use Rattle.numbers.specs.Number.{is_working}
use Rattle.numbers.specs.Rounding.{is_precision, precision_of}
use Rattle.numbers.proofs.Laws.Scaled.{value_fraction}
use Rattle.numbers.proofs.Laws.Refusals.{precision_range, bad_precision, first_unfit, first_fit}
use Rattle.arithmetic.specs.Operations.{rounding_of}
use Rattle.arithmetic.specs.Private.{operand_value, IsExact}
use Rattle.arithmetic.proofs.Laws.Entries.{exact_equal}
use Rattle.arithmetic.proofs.Laws.Operands.{operand_fraction}
use Rattle.arithmetic.proofs.operation.round.Goals as goal
use Rattle.arithmetic.proofs.operation.round.Goals.{After-is_precision, Else-not-is_precision, Else-not-is_working}

-- what is judged is the task's precision
judged : (c : After-is_precision) → c.is_precision.result ≡ is_precision (precision_of c.args.task)
judged c = c.is_precision.ensures ∙ ap is_precision c.precision_of.ensures

-- past a test, what it asks is so
precise : (c : Else-not-is_precision) → is_precision (precision_of c.args.task) ≡ true
precise c = sym (judged c.before) ∙ c.if-not-is_precision.false

fit : (c : Else-not-is_working) → is_working c.args.x ≡ true
fit c = sym c.is_working.ensures ∙ c.if-not-is_working.false

pub returns-then-not-is_precision : goal.returns-then-not-is_precision
unfolding marked marked_answer rounding_of row_number
returns-then-not-is_precision c = ap (marked _) (bad_precision _ _ _ _ (sym (judged c.before) ∙ c.if-not-is_precision.true))

pub returns-then-not-is_working : goal.returns-then-not-is_working
unfolding marked marked_answer rounding_of row_number
returns-then-not-is_working c = ap (marked _) (first_unfit _ _ _ _ (precise c.before.before) (sym c.is_working.ensures ∙ c.if-not-is_working.true))

pub of-requires : goal.of-requires
of-requires c = fit c

pub rounded-requires : goal.rounded-requires
rounded-requires c = precision_range _ (precise c.before.before.before.before)

pub returns : goal.returns
unfolding rounding_of IsExact
returns c =
    let exact = precise c.before.before.before.before.before in
    let n = precision_range _ exact in
    let same = exact_equal c.exact_operand.result (operand_value c.of.result) _ (operand_fraction c.of.result) (value_fraction c.args.x) c.of.ensures c.exact_operand.ensures in
    c.rounded.ensures ∙ same c.args.task n.0 n.1 ∙ ap (marked _) (first_fit _ _ _ _ exact (fit c.before.before.before))
