-- `export::layout::write_word` meets its contract: the bytes are those of the word.
use Rattle.std.proofs.Common.{sym, ◌∙◌}
use Rattle.export.proofs.Laws.Words.{eight_places}
use Rattle.export.proofs.layout.write_word.Goals as goal

pub returns : goal.returns
returns c = c.to_le_bytes.ensures ∙ sym (eight_places c.args.w)
