-- `export::layout::write` meets its contract: the two words of a number fill the sixteen bytes.
use mathlib.Core.Path.{refl, sym, ◌∙◌}
use lib.Dec.{lit≤}
use lib.ListN.{drop}
use Rattle.little_endian.proofs.Laws.Bytes.{bytes_length, first_length, both_over}
use Rattle.export.proofs.layout.write.Goals as goal

pub slice_bounds-write_word-end-2 : goal.slice_bounds-write_word-end-2
slice_bounds-write_word-end-2 c = sym (first_length 8 16 (lit≤ tt) c.args.bytes.now c.requires)

pub write_word-requires : goal.write_word-requires
write_word-requires c = first_length 8 16 (lit≤ tt) c.args.bytes.now c.requires

pub returns : goal.returns
returns c =
    both_over 8 _ _ (drop 8 c.args.bytes.now) _ _ _ refl c.write_word.ensures c.write_word-2.ensures (bytes_length 8 _)
    ∙ c.words_of-words.ensures
