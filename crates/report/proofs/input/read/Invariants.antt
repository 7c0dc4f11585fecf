-- `report::input::read` is safe, ends and counts bytes of the buffer: the measure is what is left of it.
use mathlib.Core.Path.{◌≡◌}
use Prim.Native.Nat.{◌-◌, ◌≤◌}
use lib.ListN.{length}
use Rattle.report.proofs.input.read.Given as goal

abbrev pub invariant-loop-from : goal.invariant-loop-from
invariant-loop-from l = (l.from ≤ length l.buffer) × (length l.buffer ≡ length l.initial.buffer)

abbrev pub decreases-loop-from : goal.decreases-loop-from
decreases-loop-from l = length l.buffer - l.from
