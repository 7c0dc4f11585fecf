-- `arithmetic::operation::multiply` meets its contract: by the mode code and the precision.
use Rattle.arithmetic.specs.Operations.{product_of}
use Rattle.arithmetic.proofs.operation.multiply.Goals as goal

pub returns : goal.returns
unfolding product_of
returns c = c.by_code.ensures
