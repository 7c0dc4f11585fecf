-- `numbers::number::is_working` meets its contract: it is the fit test between the two ends.
use Rattle.numbers.specs.Number.{is_working_exponent}
use Rattle.numbers.proofs.number.is_working.Goals as goal

pub returns : goal.returns
unfolding is_working_exponent
returns c = c.is_fit.ensures
