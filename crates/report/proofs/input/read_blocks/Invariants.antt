-- `report::input::read_blocks` meets its contract. The invariant: the bytes read are whole blocks, all taken.
use Prim.Native.Nat.{◌*◌}
use Rattle.report.proofs.Laws.Read.{AreRead}
use Rattle.report.proofs.input.read_blocks.Given as goal

abbrev pub invariant-loop-number : goal.invariant-loop-number
invariant-loop-number l = AreRead l.initial.buffer l.buffer l.awaited (l.number * 512)
