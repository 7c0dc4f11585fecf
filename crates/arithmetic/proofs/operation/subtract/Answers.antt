-- `arithmetic::operation::subtract` meets its contract: by the mode code and the precision.
use Rattle.arithmetic.specs.Operations.{difference_of}
use Rattle.arithmetic.proofs.operation.subtract.Goals as goal

pub returns : goal.returns
unfolding difference_of
returns c = c.by_code.ensures
