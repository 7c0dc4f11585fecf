-- `text::text::Text::with_bytes` meets its contract: each turn adds a byte of what is left, and at the end all have passed.
use mathlib.Core.List.{append_assoc, append-nil}
use mathlib.Core.Path.{◌≡◌}
use Prim.Native.Nat.{ℕ}
use native.Mathlib.Numerals.{add-one}
use lib.ListN.{take}
use lib.Seq.{take_all, take-suc}
use borrow.Author.Rules.{rules}
use Rattle.text.specs.Text.{text_of}
use Rattle.text.proofs.Laws.Cut.{within, cut_append}
use Rattle.text.proofs.text.Text.with_bytes.Goals as goal

pub loop-byte-init : goal.loop-byte-init
unfolding text_of
loop-byte-init c = rw (append-nil (take c.args.self.length c.args.self.bytes)) (within c.args.self.bytes c.args.self.length (search rules))

pub loop-byte-preserved : goal.loop-byte-preserved
loop-byte-preserved c =
    rw (add-one, take-suc {A = ℕ} _ _ 0 c.loop-byte-test.true, c.with_byte-text.ensures, c.loop-byte.invariant) (simp (cut_append, append_assoc))

pub returns : goal.returns
returns c =
    let all : take c.loop-byte.byte-index c.args.more.now ≡ c.args.more.now = take_all c.loop-byte.byte-index c.args.more.now c.loop-byte-test.false in
    rw all at c.loop-byte.invariant
