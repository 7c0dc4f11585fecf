-- `steps::halves::high_half` meets its contract: it is the table's line 7.
use Rattle.steps.proofs.Laws.Run.{one}
use Rattle.steps.proofs.TableLines.{line_7}
use Rattle.steps.proofs.halves.high_half.Goals as goal

pub returns : goal.returns
returns c p task = one _ _ c.rounded.ensures c.line.ensures (line_7 p _ task)
