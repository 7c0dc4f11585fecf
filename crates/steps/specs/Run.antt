-- Terms of private contracts and of the laws: what a line gives, and the steps of a digit. No promise of a public function cites them.
use Rattle.std.specs.Prelude.{◌≡◌, true, List, [], ◌∷◌, Ok, Err}
use Rattle.std.specs.declared.result.Result.{Result}
use Rattle.refusals.specs.Row.{row_number}
use Rattle.refusals.specs.declared.Refusal.{Refusal}
use Rattle.numbers.specs.Number.{is_working}
use Rattle.numbers.specs.Fraction.{Equal, value, sum, difference, product}
use Rattle.numbers.specs.Rounding.{by_mode, claim}
use Rattle.numbers.specs.Answer.{Outcome, given, refused, rounded}
use Rattle.numbers.specs.declared.number.Number.{Number}
use Rattle.numbers.specs.declared.task.Mode.TheVariants.{Trunc, Away, Sticky}
use Rattle.numbers.specs.declared.task.Task.{Task}
use Rattle.steps.specs.Steps.{complement, line_of, line_of_both}
use Rattle.steps.specs.declared.operands.Working.{Working}

-- what a line gives: its number, or the row that refuses
unfoldable pub line_outcome : Result Working Refusal → Outcome
line_outcome (Ok x) = given x.number
line_outcome (Err refusal) = refused (row_number refusal)

-- a working number, or a refusal
unfoldable pub IsResult : Outcome → Type 0
IsResult (given x) = is_working x ≡ true
IsResult (refused k) = Unit {0}

-- c(t) is exact in 64 bits
unfoldable pub HasComplement : Outcome → Type 0
HasComplement (given t) = (c : Number) × (rounded (claim 64) (complement (value t)) ≡ given c) × Equal (value c) (complement (value t))
HasComplement (refused k) = Unit {0}

-- a digit of a remainder
unfoldable pub digit_of : Task → Outcome → Outcome → Outcome
digit_of task remainder reciprocal = line_of_both task product (line_of (by_mode Trunc 32) value remainder) reciprocal

-- the remainder less one of the digit's products with the halves of the divisor
unfoldable pub less_of : Outcome → Outcome → Outcome → Outcome
less_of remainder digit half = line_of_both (claim 64) difference remainder (line_of_both (claim 64) product digit half)

-- the remainder after a digit
abbrev pub remainder_after : Outcome → Outcome → Outcome → Outcome → Outcome
remainder_after remainder digit high low = less_of (less_of remainder digit high) digit low

-- the six steps of a digit: the remainder, trunc 32, the digit, its products with the halves of the divisor, the remainder less the first product, and
-- less the second
unfoldable pub steps_of : Outcome → Outcome → Outcome → Outcome → List Outcome
steps_of remainder digit high low =
    line_of (by_mode Trunc 32) value remainder
    ∷ digit
    ∷ line_of_both (claim 64) product digit high
    ∷ line_of_both (claim 64) product digit low
    ∷ less_of remainder digit high
    ∷ remainder_after remainder digit high low
    ∷ []

-- those of one of the first three digits
abbrev pub digit_steps : Outcome → Outcome → Outcome → Outcome → List Outcome
digit_steps remainder reciprocal high low = steps_of remainder (digit_of (by_mode Away 24) remainder reciprocal) high low

-- the three sums of the digits
unfoldable pub sum_steps : Task → Outcome → Outcome → Outcome → Outcome → List Outcome
sum_steps task first second third fourth =
    let low = line_of_both (by_mode Sticky 64) sum third fourth in
    let middle = line_of_both (by_mode Sticky 64) sum low second in
    low ∷ middle ∷ line_of_both task sum middle first ∷ []
