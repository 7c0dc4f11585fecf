-- `lines::buffer::read` is safe: each turn before has added a byte, so there is room.
use Rattle.std.proofs.Common.{◌≡◌}
use Rattle.arrayvec.specs.ArrayVec.{array_vec_len}
use Rattle.lines.proofs.buffer.read.Given as goal

abbrev pub invariant-loop : goal.invariant-loop
invariant-loop l = array_vec_len l.bytes ≡ l.counter
