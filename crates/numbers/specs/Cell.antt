-- The rounding of a cell: what stands for a value that is known to two words, and to whether something nonzero lies below them. No sentence of document 01
-- speaks of cells; an operation that works its exact result out to a cell rounds it here, once.
use Rattle.std.specs.Prelude.{◌≡◌, Bool, true, not, cond, ℕ, ◌+◌, ◌*◌, ◌/◌, ◌^◌, ◌≤◌, ℤ}
use Rattle.numbers.specs.Fraction.{Fraction, IsFraction, HasSign, above, below, scaled}
use Rattle.numbers.specs.Rounding.{precision_of, is_precision}
use Rattle.numbers.specs.Accuracy.{Marked, refused_by, marked_by}
use Rattle.numbers.specs.Grid.{HasCell}
use Rattle.numbers.specs.declared.task.Task.{Task}

-- a magnitude of two words
unfoldable pub wide : ℕ → ℕ → ℕ
wide high low = high * 2 ^ 64 + low

-- the magnitude of x lies in the cell that goes from F × 2^e to (F + 1) × 2^e: at its lower end, or, with a rest, strictly inside
unfoldable pub LiesIn : Fraction → ℕ → Bool → ℤ → Type 0
LiesIn x F rest e = HasCell x (above e) (below e) F rest

-- the odd one of F and F + 1
unfoldable pub odd_of : ℕ → ℕ
odd_of F = F / 2 * 2 + 1

-- what stands for every value of a cell: its lower end, or, with a rest, the odd one of its two ends
unfoldable pub end_of : ℕ → Bool → ℕ
end_of F rest = cond rest (odd_of F) F

-- sign × F × 2^e, where 2^e is 2^(above e) / 2^(below e): one of the two is 1
unfoldable pub binary : Bool → ℕ → ℤ → Fraction
binary negative F e = scaled negative F (above e) (below e)

-- What rounding a cell answers. Row 2: "precision not 1 to 64".
unfoldable pub cell_rounding : Bool → ℕ → Bool → ℤ → Task → Marked
cell_rounding negative F rest e task = cond (not (is_precision (precision_of task))) (refused_by 2) (marked_by task (binary negative (end_of F rest) e))

-- The answer is the rounding of every value of the cell, and its mark that of every value, where the cell has no rest, or two bits more than the task
-- asks. With one bit more the odd end may be rounded otherwise than the values, and in a shorter cell the values themselves may differ; the answer is then
-- the odd end's, and Exact says that it is the odd end, which need not be a value of the cell.
unfoldable pub RoundsEvery : Marked → Bool → ℕ → Bool → ℤ → Task → Type 0
RoundsEvery answer negative F rest e task =
    is_precision (precision_of task) ≡ true → (rest ≡ true → 2 * 2 ^ precision_of task ≤ F)
    → (x : Fraction) → IsFraction x → HasSign negative x → LiesIn x F rest e → answer ≡ marked_by task x
