-- `arithmetic::operation::add` meets its contract: by the mode code and the precision.
use Rattle.arithmetic.specs.Operations.{sum_of}
use Rattle.arithmetic.proofs.operation.add.Goals as goal

pub returns : goal.returns
unfolding sum_of
returns c = c.by_code.ensures
