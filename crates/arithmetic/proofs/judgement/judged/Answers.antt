-- `arithmetic::judgement::judged` meets its contract: each refusal has the tests before it behind it.
use Rattle.std.proofs.Common.{◌≡◌, true, sym, ◌∙◌}
use Rattle.refusals.specs.Row.{row_number}
use Rattle.numbers.specs.Answer.{unless_refused}
use Rattle.numbers.specs.Number.{is_working}
use Rattle.numbers.specs.Rounding.{is_precision}
use Rattle.numbers.proofs.Laws.Refusals.{bad_precision, first_unfit, second_unfit, none_unfit}
use Rattle.arithmetic.proofs.judgement.judged.Goals as goal
use Rattle.arithmetic.proofs.judgement.judged.Goals.{Else-not-is_precision, Else-not-is_working}

-- past a test, what it asks is so
precise : (c : Else-not-is_precision) → is_precision c.args.precision ≡ true
precise c = sym c.is_precision.ensures ∙ c.if-not-is_precision.false

first : (c : Else-not-is_working) → is_working c.args.a ≡ true
first c = sym c.is_working.ensures ∙ c.if-not-is_working.false

pub returns-then-not-is_precision-clause-row : goal.returns-then-not-is_precision-clause-row
unfolding unless_refused row_number
returns-then-not-is_precision-clause-row c = λ x. bad_precision _ _ _ _ (sym c.is_precision.ensures ∙ c.if-not-is_precision.true)

pub returns-then-not-is_working-clause-row : goal.returns-then-not-is_working-clause-row
unfolding unless_refused row_number
returns-then-not-is_working-clause-row c = λ x. first_unfit _ _ _ _ (precise c.before.before) (sym c.is_working.ensures ∙ c.if-not-is_working.true)

pub returns-then-not-is_working-2-clause-row : goal.returns-then-not-is_working-2-clause-row
unfolding unless_refused row_number
returns-then-not-is_working-2-clause-row c = λ x. second_unfit _ _ _ _ x (precise c.before.before.before.before) (first c.before.before) (sym c.is_working-2.ensures ∙ c.if-not-is_working-2.true)

pub returns-clause-row : goal.returns-clause-row
unfolding unless_refused row_number
returns-clause-row c = λ x. none_unfit _ _ _ _ x (precise c.before.before.before.before) (first c.before.before) (sym c.is_working-2.ensures ∙ c.if-not-is_working-2.false)
