-- Document 01, "What callers get": the value after a wanted step.
use Rattle.std.specs.Prelude.{Bool, not, ◌&&◌, cond, ℕ, leb}
use Rattle.numbers.specs.Rounding.{task_of}
use Rattle.numbers.specs.Answer.{Outcome, refused}
use Rattle.numbers.specs.declared.number.Number.{Number}
use Rattle.division.specs.Quotient.{unless_indivisible}
use Rattle.steps.specs.Steps.{after_step}

-- Row 6: "step not 1 to 32"
unfoldable pub is_step : ℕ → Bool
is_step k = leb 1 k && leb k 32

-- "another the value after a wanted step": rows 1 to 6, else what the table gives, 7 or 8 where a claim fails
unfoldable pub step_of : Number → Number → ℕ → ℕ → ℕ → Outcome
step_of p d code n k = unless_indivisible p d code n (cond (not (is_step k)) (refused 6) (after_step p d (task_of code n) k))
