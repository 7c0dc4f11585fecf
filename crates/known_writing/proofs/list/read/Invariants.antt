-- `known_writing::list::read` is safe: the list has no number less than were read, so one more either stands in it or has room behind it.
use Rattle.std.proofs.Common.{◌≤◌}
use Rattle.arrayvec.specs.ArrayVec.{array_vec_len}
use Rattle.known_writing.proofs.list.read.Given as goal

abbrev pub invariant-loop-i : goal.invariant-loop-i
invariant-loop-i l = l.i ≤ array_vec_len l.list
