-- `division::quotient::divide` meets its contract: a row that refuses is passed on, and with none the rounded quotient is.
use Rattle.std.proofs.Common.{◌≡◌, ℕ, sym, ap, ◌∙◌}
use Rattle.std.proofs.lemmas.Result.{err_from_is_err_and}
use Rattle.numbers.specs.Accuracy.{Marked, marked, marked_by, marked_answer}
use Rattle.numbers.specs.Answer.{unless_refused}
use Rattle.numbers.specs.Fraction.{value, quotient}
use Rattle.numbers.specs.Rounding.{task_of}
use Rattle.numbers.specs.declared.number.Number.{Number}
use Rattle.numbers.specs.declared.task.Task.{Task}
use Rattle.division.specs.Quotient.{quotient_of}
use Rattle.division.specs.Judgement.{IsTaken}
use Rattle.division.proofs.Laws.Divisible.{taken_task, quotient_taken, divisible_taken}
use Rattle.division.proofs.Laws.Rows.{quotient_rows, answer_rows}
use Rattle.division.proofs.quotient.divide.Goals as goal
use Rattle.division.proofs.quotient.divide.Goals.{In_ok-judged}

pub returns-in_err-judged : goal.returns-in_err-judged
unfolding marked marked_answer quotient_of unless_refused
returns-in_err-judged c =
    let p = err_from_is_err_and c.from_residual.result c.from_residual.ensures.1 in
    rw (p.1, p.2) (record { told = ap (marked _) (c.in_err-judged.ensures _); rows = quotient_rows c.args.p c.args.d c.args.code c.args.precision _ (sym (c.in_err-judged.ensures _)) })

is_taken : (c : In_ok-judged) → IsTaken c.args.p c.args.d c.args.code c.args.precision
unfolding unless_refused
is_taken c = divisible_taken _ _ _ _ (c.in_ok-judged.ensures)

answer_is : {p d : Number} {code n : ℕ} → IsTaken p d code n → {task : Task} {x : Marked} → task ≡ task_of code n
    → let v = quotient (value p) (value d) in x ≡ marked_by task v → x ≡ marked v (quotient_of p d code n)
answer_is {p} {d} is named e =
    let v = quotient (value p) (value d) in
    e ∙ ap (λ (t : Task). marked_by t v) named ∙ ap (marked v) (sym (quotient_taken is))

pub divided-requires : goal.divided-requires
divided-requires c =
    let is = is_taken c.before in
    (is.dividend, is.divisor, is.nonzero, taken_task is c.task_of.ensures)

pub returns : goal.returns
returns c =
    let told = answer_is (is_taken (goal.at-returns c).In_ok-judged) c.task_of.ensures c.divided.ensures in
    record { told = told; rows = answer_rows _ _ _ _ _ _ told }
