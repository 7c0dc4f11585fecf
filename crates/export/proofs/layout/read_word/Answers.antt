-- `export::layout::read_word` meets its contract: each byte stands at its place.
use Rattle.export.proofs.Laws.Words.{eight_read}
use Rattle.export.proofs.layout.read_word.Goals as goal

pub returns : goal.returns
returns c =
    let eight = rw c.unwrap.ensures at c.as_array.ensures.cases in
    rw (c.from_le_bytes.ensures, eight.same) (eight_read _ c.requires)
