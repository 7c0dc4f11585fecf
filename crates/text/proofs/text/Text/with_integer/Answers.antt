-- `text::text::Text::with_integer` meets its contract: a minus and the magnitude, or the magnitude alone.
use mathlib.Core.List.{append_assoc}
use mathlib.Core.Path.{refl}
use mir.Facts.{to_z-of_z}
use native.Mathlib.Numerals.{add-one}
use Rattle.numbers.proofs.Laws.SignedWords.{negative, natural}
use Rattle.text.specs.Text.{ascii, integer_text}
use Rattle.text.proofs.Laws.Cut.{cut_append}
use Rattle.text.proofs.text.Text.with_integer.Goals as goal

pub returns-then-x-lt0 : goal.returns-then-x-lt0
unfolding integer_text ascii
returns-then-x-lt0 c =
    let x = negative c.args.x c.ranges.x c.if-x-lt0.true in
    rw (c.with_decimal.ensures, c.from-magnitude.ensures, c.unsigned_abs.ensures.value, to_z-of_z c.ranges.x, x.whole, c.with_bytes.ensures, add-one)
    (simp (cut_append, append_assoc))

pub returns : goal.returns
unfolding integer_text
returns c =
    let x = natural c.args.x c.ranges.x c.if-x-lt0.false in
    rw (c.with_decimal-2.ensures, c.from-magnitude.ensures, c.unsigned_abs.ensures.value, to_z-of_z c.ranges.x, x.whole) refl
