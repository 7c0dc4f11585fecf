-- `numbers::rounding::end_of` meets its contract: 2^64 is even, so the last bit of the magnitude is that of its lower word.
use mathlib.Core.Path.{◌≡◌}
use mathlib.Core.Bool.{Bool, true, false}
use Prim.Native.Nat.{ℕ, ◌+◌, ◌*◌, ◌/◌}
use native.Mathlib.Omega.{arith}
use Rattle.numbers.specs.Cell.{wide, odd_of, end_of}
use Rattle.numbers.proofs.rounding.end_of.Goals as goal

odd : (high low : ℕ) → wide high (low / 2 * 2 + 1) ≡ odd_of (wide high low)
unfolding wide odd_of
odd high low = omega arith

set : (rest : Bool) (high low : ℕ) → rest ≡ true → wide high (low / 2 * 2 + 1) ≡ end_of (wide high low) rest
unfolding end_of
set rest high low e = rw e (odd high low)

clear : (rest : Bool) (high low : ℕ) → rest ≡ false → wide high low ≡ end_of (wide high low) rest
unfolding end_of
clear rest high low e = rw e

pub returns-then-cell : goal.returns-then-cell
returns-then-cell c = set _ _ _ c.if-cell.true

pub returns-else-cell : goal.returns-else-cell
returns-else-cell c = clear _ _ _ c.if-cell.false
