-- `numbers::task::is_precision` meets its contract: the two tests of the range.
use borrow.Author.Tests.{le-leb, lt-leb}
use Rattle.numbers.specs.Rounding.{is_precision}
use Rattle.numbers.proofs.task.is_precision.Goals as goal

pub returns-then-n-ge1 : goal.returns-then-n-ge1
unfolding is_precision
returns-then-n-ge1 c = rw (le-leb _ _ c.if-n-ge1.true)

pub returns-else-n-ge1 : goal.returns-else-n-ge1
unfolding is_precision
returns-else-n-ge1 c = rw (lt-leb _ _ c.if-n-ge1.false)
