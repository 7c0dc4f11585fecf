-- `steps::halves::low_half` meets its contract: it is the table's line 8.
use Rattle.steps.proofs.Laws.Run.{both}
use Rattle.steps.proofs.TableLines.{line_8}
use Rattle.steps.proofs.halves.low_half.Goals as goal

pub returns : goal.returns
returns c p task = both _ _ c.combined.ensures c.line-divisor.ensures (c.requires p task) (line_8 p _ task)
