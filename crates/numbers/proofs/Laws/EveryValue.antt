-- The rounding of a cell: the end that stands for it is rounded and marked as every value of it.
use mathlib.Core.Path.{◌≡◌, refl, sym}
use mathlib.Core.Bool.{Bool, true, false}
use Prim.Native.Nat.{ℕ, suc, ◌*◌, ◌^◌, ◌≤◌}
use native.Mathlib.Nat.{mul-le-mul_right, pow-succ'}
use native.Mathlib.Omega.{arith}
use lib.Ieee.{minus}
use lib.IntN.{ℤ}
use Rattle.numbers.specs.Accuracy.{marked_by}
use Rattle.numbers.specs.Cell.{LiesIn, odd_of, end_of, binary, cell_rounding, RoundsEvery}
use Rattle.numbers.specs.Fraction.{Fraction, IsFraction, HasSign, above, below, scaled}
use Rattle.numbers.specs.Grid.{HasCell}
use Rattle.numbers.specs.Rounding.{precision_of}
use Rattle.numbers.specs.declared.task.Task.{Task}
use Rattle.numbers.proofs.Laws.Alike.{odd_alike}
use Rattle.numbers.proofs.Laws.Marked.{same_mark, alike_marks}
use Rattle.numbers.proofs.Laws.Minus.{minus_split}
use Rattle.numbers.proofs.Laws.Refusals.{precision_range}
use Rattle.numbers.proofs.Laws.Scaled.{scaled_fraction, signed_scaled, same_grid}

-- 2^i / 2^o is 2^(i − o)
pub scaled_binary : (task : Task) (negative : Bool) (F i o : ℕ) → 1 ≤ precision_of task → marked_by task (scaled negative F i o) ≡ marked_by task (binary negative F (minus i o))
unfolding binary
scaled_binary task negative F i o n0 =
    same_mark task (scaled negative F i o) (binary negative F (minus i o)) (scaled_fraction negative F i o) (scaled_fraction negative F (above (minus i o)) (below (minus i o))) n0
    (same_grid negative F i o (above (minus i o)) (below (minus i o)) (omega (arith, (minus_split i o).cross)))

-- a value and what stands for its cell
pub grid_rounds : (task : Task) (negative : Bool) (x : Fraction) (F i o : ℕ) → IsFraction x → HasSign negative x → 1 ≤ precision_of task → precision_of task ≤ 64
    → (rest : Bool) → (rest ≡ true → 2 * 2 ^ precision_of task ≤ F) → HasCell x i o F rest → marked_by task x ≡ marked_by task (scaled negative (end_of F rest) i o)
unfolding end_of
grid_rounds task negative x F i o x0 sign n0 n1 false fine h =
    same_mark task x (scaled negative F i o) x0 (scaled_fraction negative F i o) n0 (signed_scaled x0 sign (omega arith)).amount
grid_rounds task negative x F i o x0 sign n0 n1 true fine h =
    alike_marks task x (scaled negative (odd_of F) i o) (suc i) o n0 n1 x0 (scaled_fraction negative (odd_of F) i o)
    (rw (pow-succ' 2 i) (omega (arith, mul-le-mul_right (x.denominator * 2 ^ i) (fine refl), h.0)))
    (odd_alike i o (suc i) o negative F x x0 sign h (omega arith))

-- the answer of the cell is that of every value of it
pub every_value : (negative : Bool) (F : ℕ) (rest : Bool) (e : ℤ) (task : Task) → RoundsEvery (cell_rounding negative F rest e task) negative F rest e task
unfolding RoundsEvery cell_rounding binary LiesIn
every_value negative F rest e task n fine x x0 sign h =
    let range = precision_range (precision_of task) n in
    rw n (sym (grid_rounds task negative x F (above e) (below e) x0 sign range.0 range.1 rest fine h))
