-- `depot::state::is_fit_sum` meets its contract: the fit test between the two ends, and then the sign.
use Rattle.depot.specs.Depot.{is_fit_sum}
use Rattle.depot.proofs.state.is_fit_sum.Goals as goal

pub returns-then-is_fit : goal.returns-then-is_fit
unfolding is_fit_sum
returns-then-is_fit c = rw (← c.is_fit.ensures, c.if-is_fit.true, c.is_negative.ensures)

pub returns-else-is_fit : goal.returns-else-is_fit
unfolding is_fit_sum
returns-else-is_fit c = rw (← c.is_fit.ensures, c.if-is_fit.false)
