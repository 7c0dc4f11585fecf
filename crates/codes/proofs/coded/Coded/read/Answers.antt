-- `codes::coded::Coded::read` meets its contract: the number of the code in the bytes is answered.
use borrow.Author.Tests.{eq-eqb, ne_eqb}
use Rattle.refusals.specs.Row.{row_number}
use Rattle.numbers.specs.Answer.{answer_outcome}
use Rattle.codes.specs.Codes.{reading_of}
use Rattle.codes.proofs.coded.Coded.read.Goals as goal

pub returns-then-code-FORMAT : goal.returns-then-code-FORMAT
unfolding answer_outcome row_number reading_of
returns-then-code-FORMAT g c = rw (← c.FORMAT.ensures) (rw (ne_eqb _ _ c.if-code-FORMAT.true))

pub returns : goal.returns
unfolding reading_of
returns g c =
    let long = rw c.FORMAT.ensures at c.if-code-FORMAT.false in
    rw (eq-eqb _ _ long, ← c.from_bytes.ensures long) c.number.ensures
