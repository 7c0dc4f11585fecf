-- `arithmetic::sum::raised` meets its contract: half the significand stands in the upper word, its last bit at the top of the lower one.
use Rattle.std.proofs.Common.{arith}
use Rattle.numbers.specs.Cell.{wide}
use Rattle.arithmetic.proofs.sum.raised.Goals as goal

pub returns : goal.returns
unfolding wide
returns c = omega arith
