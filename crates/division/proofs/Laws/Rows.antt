-- The rows that refuse a quotient: 1 to 5. The rounding at its end refuses none.
use Rattle.std.proofs.Common.{◌≡◌, ℕ, ◌≤◌, Bool, true, false, cond, not, ltb, Ok, Err, IfErr, Result, sym, refl, ap, ◌∙◌, ltb-false, arith}
use lib.Dec.{lit≤}
use Rattle.refusals.specs.Row.{row_number}
use Rattle.refusals.specs.declared.Refusal.{Refusal}
use Rattle.numbers.specs.Accuracy.{marked, marked_answer, unmarked}
use Rattle.numbers.specs.Answer.{Outcome, given, refused, rounded, unless_unknown, unless_unfit}
use Rattle.numbers.specs.Fraction.{Fraction, value, quotient}
use Rattle.numbers.specs.Number.{is_admissible}
use Rattle.numbers.specs.Rounding.{task_of, is_precision}
use Rattle.numbers.specs.declared.answer.Rounded.{Rounded}
use Rattle.numbers.specs.declared.number.Number.{Number}
use Rattle.numbers.specs.declared.task.Task.{Task}
use Rattle.numbers.proofs.Laws.Marked.{unmark}
use Rattle.numbers.proofs.Laws.Refusals.{precision_range, mode_of_is}
use Rattle.numbers.proofs.Laws.Tests.{never}
use Rattle.division.specs.Quotient.{is_zero, unless_indivisible, quotient_of}
use Rattle.division.specs.Words.{IsGiven}
use Rattle.division.proofs.Laws.Rounds.{quotient_given}

-- a row that refuses is that row alone
same_row : (j k : ℕ) → refused j ≡ refused k → j ≡ k
same_row j k e = cc

-- what is given is not refused
not_refused : (o : Outcome) (k : ℕ) → IsGiven o → o ≡ refused k → ⊥
unfolding IsGiven
not_refused (given x) k is e = never cc
not_refused (refused j) k is e = is

pub quotient_rows : (p d : Number) (code n k : ℕ) → quotient_of p d code n ≡ refused k → k ≤ 5
unfolding quotient_of unless_indivisible unless_unknown unless_unfit
quotient_rows p d code n k e = go (ltb 5 code) (is_precision n) (is_admissible p) (is_admissible d) (is_zero d) refl refl refl refl refl e
  where
    answer : Outcome
    answer = rounded (task_of code n) (quotient (value p) (value d))

    low : (j : ℕ) → j ≤ 5 → refused j ≡ refused k → k ≤ 5
    low j h e = rw (← same_row j k e) h

    go : (high precise first second none : Bool) → ltb 5 code ≡ high → is_precision n ≡ precise → is_admissible p ≡ first → is_admissible d ≡ second → is_zero d ≡ none
        → cond high (refused 1) (cond (not precise) (refused 2) (cond (not first) (refused 3) (cond (not second) (refused 4) (cond none (refused 5) answer)))) ≡ refused k → k ≤ 5
    go true precise first second none a b c f g h = low 1 (lit≤ tt) h
    go false false first second none a b c f g h = low 2 (lit≤ tt) h
    go false true false second none a b c f g h = low 3 (lit≤ tt) h
    go false true true false none a b c f g h = low 4 (lit≤ tt) h
    go false true true true true a b c f g h = low 5 (lit≤ tt) h
    go false true true true false a b c f g h =
        let mode = mode_of_is code n (ltb-false 5 code a) in
        let range = precision_range n b in
        absurd (not_refused _ k (quotient_given p d c f g mode.0 n range.0 range.1) (ap (λ (task : Task). rounded task (quotient (value p) (value d))) (sym mode.1) ∙ h))

-- an answer that is the quotient's, marked against any value: no row above 5
pub answer_rows : (p d : Number) (code n : ℕ) (x : Fraction) (r : Result Rounded Refusal) → marked_answer r ≡ marked x (quotient_of p d code n)
    → IfErr r (λ (refusal : Refusal). row_number refusal ≤ 5)
unfolding marked_answer unmarked
answer_rows p d code n x (Ok rounding) e = tt
answer_rows p d code n x (Err refusal) e = quotient_rows p d code n (row_number refusal) (sym (ap unmarked e ∙ unmark x (quotient_of p d code n)))
