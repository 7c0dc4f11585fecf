-- `refusals::Refusal::row` meets its contract: the number of each case is the one written beside it.
use Rattle.std.proofs.Common.{rules}
use Rattle.refusals.specs.Row.{row_number}
use Rattle.refusals.proofs.Refusal.row.Goals as goal

pub returns : goal.returns
unfolding row_number
returns c = search rules
