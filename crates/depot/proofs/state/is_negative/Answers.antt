-- `depot::state::is_negative` meets its contract: the two cases are the definition's.
use Rattle.depot.specs.Depot.{is_negative_number}
use Rattle.depot.proofs.state.is_negative.Goals as goal

pub returns-in-Zero : goal.returns-in-Zero
unfolding is_negative_number
returns-in-Zero c = rw c.in-Zero.is

pub returns-in-Finite : goal.returns-in-Finite
unfolding is_negative_number
returns-in-Finite c = rw c.in-Finite.is
