-- The exact sum of two numbers: the operands have the numbers' values, in either order.
use Rattle.arithmetic.proofs.Laws.Entries.{sum_same}
use Rattle.arithmetic.proofs.exact.SumExactly.exact.Goals as goal

pub returns : goal.returns
returns c = sum_same _ _ _ _ _ c.of.ensures c.of-2.ensures (rw c.of-3.ensures at c.sum.ensures)
