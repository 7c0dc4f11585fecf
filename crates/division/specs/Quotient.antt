-- Document 01, "What callers get": the quotient. Nothing here speaks of a step.
use Rattle.std.specs.Prelude.{ℕ, Bool, true, false, cond}
use Rattle.numbers.specs.Number.{is_admissible}
use Rattle.numbers.specs.Fraction.{value, quotient}
use Rattle.numbers.specs.Rounding.{task_of}
use Rattle.numbers.specs.Answer.{Outcome, refused, rounded, unless_unknown, unless_either_unfit}
use Rattle.numbers.specs.declared.number.Number.{Number}
use Rattle.numbers.specs.declared.number.Number.TheVariants.{Zero, Finite}

unfoldable pub is_zero : Number → Bool
is_zero Zero = true
is_zero (Finite negative e S) = false

-- Rows 1 to 5. Row 1: "for divide and steps above 5". Rows 3 and 4: "divide takes admissible ones and code 0 to 5." Row 5: "divisor zero".
unfoldable pub unless_indivisible : Number → Number → ℕ → ℕ → Outcome → Outcome
unless_indivisible p d code n answer = unless_unknown 5 code (unless_either_unfit is_admissible p d n (cond (is_zero d) (refused 5) answer))

-- "One entry returns the quotient": the exact one, rounded once
unfoldable pub quotient_of : Number → Number → ℕ → ℕ → Outcome
quotient_of p d code n = unless_indivisible p d code n (rounded (task_of code n) (quotient (value p) (value d)))
