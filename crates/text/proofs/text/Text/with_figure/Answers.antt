-- `text::text::Text::with_figure` meets its contract: `zero`, or the significand, a space and the exponent.
use mathlib.Core.List.{append_assoc}
use borrow.Author.Rules.{rules}
use mir.Facts.{to_z-of_z}
use mir.Syntax.{w32}
use mir.Val.{SFits}
use Rattle.text.specs.Text.{ascii, figure_text}
use Rattle.text.proofs.Laws.Cut.{cut_append}
use Rattle.text.proofs.text.Text.with_figure.Goals as goal

pub returns-in-Zero : goal.returns-in-Zero
unfolding ascii figure_text
returns-in-Zero c = rw c.in-Zero.is c.with_bytes.ensures

pub returns-in-Finite : goal.returns-in-Finite
unfolding ascii figure_text
returns-in-Finite c =
    let fits : SFits w32 c.in-Finite.exponent = search rules in
    rw (c.in-Finite.is, c.with_integer.ensures, to_z-of_z fits, c.with_bytes-in-Finite.ensures, c.with_sixteen_digits.ensures)
    (simp (cut_append, append_assoc))
