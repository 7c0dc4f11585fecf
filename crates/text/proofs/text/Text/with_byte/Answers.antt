-- `text::text::Text::with_byte` meets its contract: a full text takes no more, and another has the byte behind what is written.
use borrow.Author.Rules.{rules}
use Rattle.text.specs.Text.{text_of}
use Rattle.text.proofs.Laws.Cut.{full, stored}
use Rattle.text.proofs.text.Text.with_byte.Goals as goal

pub returns-then-self-lt-CAPACITY : goal.returns-then-self-lt-CAPACITY
unfolding text_of
returns-then-self-lt-CAPACITY c = stored c.args.self.bytes c.args.self.length (search rules) c.args.byte c.if-self-lt-CAPACITY.true

pub returns-else-self-lt-CAPACITY : goal.returns-else-self-lt-CAPACITY
unfolding text_of
returns-else-self-lt-CAPACITY c = full c.args.self.bytes c.args.self.length (search rules) _ c.if-self-lt-CAPACITY.false
