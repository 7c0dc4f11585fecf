-- `division::judgement::judged` meets its contract: each refusal has the tests before it behind it, and past them all the pair is divided.
use Rattle.std.proofs.Common.{◌≡◌, true, false, sym, ◌∙◌, arith}
use Rattle.refusals.specs.Row.{row_number}
use Rattle.numbers.specs.Answer.{unless_refused}
use Rattle.numbers.specs.Number.{is_admissible}
use Rattle.numbers.specs.Rounding.{is_precision}
use Rattle.division.specs.Quotient.{is_zero}
use Rattle.division.proofs.Laws.Divisible.{unknown_mode, bad_precision, first_unfit, second_unfit, zero_divisor, divisible}
use Rattle.division.proofs.judgement.judged.Goals as goal
use Rattle.division.proofs.judgement.judged.Goals.{Else-first_unfit, Else-imprecise, Else-second_unfit, Else-zero_divisor}

precise : (c : Else-imprecise) → is_precision c.args.precision ≡ true
precise c = sym c.is_precision-imprecise.ensures ∙ c.if-imprecise.false

first_fit : (c : Else-first_unfit) → is_admissible c.args.p ≡ true
first_fit c = sym c.is_admissible-first_unfit.ensures ∙ c.if-first_unfit.false

second_fit : (c : Else-second_unfit) → is_admissible c.args.d ≡ true
second_fit c = sym c.is_admissible-second_unfit.ensures ∙ c.if-second_unfit.false

nonzero : (c : Else-zero_divisor) → is_zero c.args.d ≡ false
nonzero c = sym c.is_zero-zero_divisor.ensures ∙ c.if-zero_divisor.false

-- what is asked for rows 2 to 5, and known past each test
pub returns-then-code-gt-LAST_CODE : goal.returns-then-code-gt-LAST_CODE
unfolding unless_refused row_number
returns-then-code-gt-LAST_CODE c = λ x. unknown_mode _ _ _ _ x (omega (arith, c.if-code-gt-LAST_CODE.true))

pub returns-then-imprecise : goal.returns-then-imprecise
unfolding unless_refused row_number
returns-then-imprecise c =
    λ x. bad_precision _ _ _ _ x c.if-code-gt-LAST_CODE.false (sym c.is_precision-imprecise.ensures ∙ c.if-imprecise.true)

pub returns-then-first_unfit : goal.returns-then-first_unfit
unfolding unless_refused row_number
returns-then-first_unfit c =
    λ x. first_unfit _ _ _ _ x c.if-code-gt-LAST_CODE.false (precise c.before) (sym c.is_admissible-first_unfit.ensures ∙ c.if-first_unfit.true)

pub returns-then-second_unfit : goal.returns-then-second_unfit
unfolding unless_refused row_number
returns-then-second_unfit c =
    λ x. second_unfit _ _ _ _ x c.if-code-gt-LAST_CODE.false (precise c.before.before) (first_fit c.before) (sym c.is_admissible-second_unfit.ensures ∙ c.if-second_unfit.true)

pub returns-then-zero_divisor : goal.returns-then-zero_divisor
unfolding unless_refused row_number
returns-then-zero_divisor c =
    λ x. zero_divisor _ _ _ _ x c.if-code-gt-LAST_CODE.false (precise c.before.before.before) (first_fit c.before.before) (second_fit c.before) (sym c.is_zero-zero_divisor.ensures ∙ c.if-zero_divisor.true)

pub returns : goal.returns
unfolding unless_refused row_number
returns c = λ x.
    divisible _ _ _ _ x c.if-code-gt-LAST_CODE.false (precise c.before.before.before) (first_fit c.before.before) (second_fit c.before) (nonzero c)
