-- `text::text::Text::empty` meets its contract: of a text of length 0 nothing is written.
use borrow.Author.Rules.{rules}
use Rattle.text.specs.Text.{text_of}
use Rattle.text.proofs.text.Text.empty.Goals as goal

pub returns : goal.returns
unfolding text_of
returns c = search rules
