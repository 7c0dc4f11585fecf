-- `known_writing::output::fill` is safe: each turn before has added a byte, so there is room.
use Rattle.std.proofs.Common.{◌≡◌}
use Rattle.arrayvec.specs.ArrayVec.{array_vec_len}
use Rattle.known_writing.proofs.output.fill.Given as goal

abbrev pub invariant-loop-i : goal.invariant-loop-i
invariant-loop-i l = array_vec_len l.bytes ≡ l.i
