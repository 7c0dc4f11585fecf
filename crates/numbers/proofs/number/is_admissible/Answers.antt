-- `numbers::number::is_admissible` meets its contract: it is the fit test between the two ends.
use Rattle.numbers.specs.Number.{is_admissible_exponent}
use Rattle.numbers.proofs.number.is_admissible.Goals as goal

pub returns : goal.returns
unfolding is_admissible_exponent
returns c = c.is_fit.ensures
