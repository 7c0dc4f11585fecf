-- Document 01, "What callers get": a number or a refusal, what a task gives of an exact value, and the refusals 1 to 4.
use Rattle.std.specs.Prelude.{Bool, not, cond, ℕ, ltb, eqb, nat_abs, Ok, Err}
use Rattle.std.specs.declared.result.Result.{Result}
use Rattle.refusals.specs.Row.{row_number}
use Rattle.refusals.specs.declared.Refusal.{Refusal}
use Rattle.numbers.specs.Number.{is_working_exponent}
use Rattle.numbers.specs.Fraction.{Fraction}
use Rattle.numbers.specs.Rounding.{exponent_of, round, has_at_most_bits, is_precision}
use Rattle.numbers.specs.declared.number.Number.{Number}
use Rattle.numbers.specs.declared.number.Number.TheVariants.{Zero, Finite}
use Rattle.numbers.specs.declared.task.Mode.TheVariants.{Trunc}
use Rattle.numbers.specs.declared.task.Task.{Task}
use Rattle.numbers.specs.declared.task.Task.TheVariants.{Round, Exact}

-- a number, or the number of the table's row that refuses
pub data Outcome : Type 0 where
  given : Number → Outcome
  refused : ℕ → Outcome

-- Row 7: "exponent of the result (exact claim: of the value) not working". Here of a rounding, so of its result; zero has no exponent.
unfoldable pub checked : Number → Outcome
checked Zero = given Zero
checked (Finite negative e S) = cond (is_working_exponent e) (given (Finite negative e S)) (refused 7)

-- Row 7, then row 8, "exact claim, more than n bits": the number x, if its exponent is working and it is exact
unfoldable pub judged : Bool → Bool → Number → Outcome
judged working exact x = cond working (cond exact (given x) (refused 8)) (refused 7)

-- An exact claim, so row 7 is of the value. A value of at most n bits is its own trunc.
unfoldable pub claimed : ℕ → Fraction → Outcome
claimed n x =
    let a = nat_abs x.numerator in
    let b = x.denominator in
    cond (eqb a 0) (given Zero) (judged (is_working_exponent (exponent_of a b)) (has_at_most_bits n a b) (round Trunc n x))

-- the exact value x after its task
unfoldable pub rounded : Task → Fraction → Outcome
rounded (Round rounding) x = checked (round rounding.mode rounding.precision x)
rounded (Exact claim) x = claimed claim.precision x

-- "The lowest number that applies is returned, and none where no row applies."
-- Row 1, for codes up to `last_code`: "mode code above 6; for divide and steps above 5"
unfoldable pub unless_unknown : ℕ → ℕ → Outcome → Outcome
unless_unknown last_code code answer = cond (ltb last_code code) (refused 1) answer

-- Rows 2 and 3, for an operand that is judged by `fit`: "precision not 1 to 64", "only or first operand unfit"
unfoldable pub unless_unfit : (Number → Bool) → Number → ℕ → Outcome → Outcome
unless_unfit fit a n answer = cond (not (is_precision n)) (refused 2) (cond (not (fit a)) (refused 3) answer)

-- Rows 2 to 4, for two operands: row 4 is "second operand unfit"
abbrev pub unless_either_unfit : (Number → Bool) → Number → Number → ℕ → Outcome → Outcome
unless_either_unfit fit a b n answer = unless_unfit fit a n (cond (not (fit b)) (refused 4) answer)

-- "Where an answer is an enum, a definition gives this paper's number and values for each case of the enum": a number, or the row of the refusal
unfoldable pub answer_outcome : Result Number Refusal → Outcome
answer_outcome (Ok x) = given x
answer_outcome (Err refusal) = refused (row_number refusal)

-- what a judgement makes of the answer x: the row that refuses, or x itself
unfoldable pub unless_refused : {T : Type 0} → Result T Refusal → Outcome → Outcome
unless_refused (Ok judged) x = x
unless_refused (Err refusal) x = refused (row_number refusal)
