-- `export::layout::read` meets its contract: the two words hold the fields of the number.
use mathlib.Core.Path.{sym}
use Prim.Native.Nat.{ℕ}
use lib.Dec.{lit≤}
use Rattle.little_endian.specs.Bytes.{IsBytes}
use Rattle.little_endian.proofs.Laws.Bytes.{first_length}
use Rattle.export.specs.Layout.{number_in}
use Rattle.export.proofs.Laws.Words.{upper_read}
use Rattle.export.proofs.layout.read.Goals as goal

pub slice_bounds-read_word-end : goal.slice_bounds-read_word-end
slice_bounds-read_word-end c = sym (first_length 8 16 (lit≤ tt) c.args.bytes.now c.requires)

pub read_word-significand-requires : goal.read_word-significand-requires
read_word-significand-requires c = first_length 8 16 (lit≤ tt) c.args.bytes.now c.requires

pub returns : goal.returns
unfolding IsBytes number_in
returns c =
    let upper = upper_read c.args.bytes.now (λ (i : ℕ). (c.shared_slice_known-1.given i).fits) c.requires _ c.read_word-upper.ensures in
    rw (c.number_of.ensures, upper.0, upper.1, c.read_word-significand.ensures)
