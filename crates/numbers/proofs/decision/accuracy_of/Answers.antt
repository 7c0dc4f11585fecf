-- `numbers::decision::accuracy_of` meets its contract: its two tests are those of `accuracy_by`.
use Rattle.numbers.specs.Magnitude.{accuracy_by}
use Rattle.numbers.proofs.decision.accuracy_of.Goals as goal

pub returns-then-not-inexact : goal.returns-then-not-inexact
unfolding accuracy_by
returns-then-not-inexact c = rw c.if-not-inexact.true

pub returns-then-up-negative : goal.returns-then-up-negative
unfolding accuracy_by
returns-then-up-negative c = rw (c.if-not-inexact.false, c.if-up-negative.true)

pub returns-else-up-negative : goal.returns-else-up-negative
unfolding accuracy_by
returns-else-up-negative c = rw (c.if-not-inexact.false, c.if-up-negative.false)
