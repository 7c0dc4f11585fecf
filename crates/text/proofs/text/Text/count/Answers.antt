-- `text::text::Text::count` meets its contract: no more bytes are written than the array has.
use lib.ListN.{length-take}
use native.Mathlib.Omega.{arith}
use mathlib.Core.Path.{◌≡◌}
use lib.ListN.{length}
use borrow.Author.Rules.{rules}
use Rattle.text.specs.Text.{text_of}
use Rattle.text.proofs.text.Text.count.Goals as goal

pub returns : goal.returns
unfolding text_of
returns c =
    let whole : length c.args.self.bytes ≡ 192 = search rules in
    rw (length-take c.args.self.length c.args.self.bytes, whole, c.min.ensures) (omega arith)
