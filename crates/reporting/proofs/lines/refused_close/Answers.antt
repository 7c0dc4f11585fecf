-- `reporting::lines::refused_close` meets its contract: the text is that of the definition, and has room.
use mathlib.Core.List.{append_assoc}
use Rattle.refusals.specs.Row.{row_number}
use Rattle.text.specs.Text.{ascii}
use Rattle.text.proofs.Laws.Cut.{uncut, cut_append}
use Rattle.reporting.specs.Report.{line_of, refused_close_text}
use Rattle.reporting.proofs.Laws.Lines.{refused_close_room}
use Rattle.reporting.proofs.lines.refused_close.Goals as goal

pub returns : goal.returns
unfolding ascii refused_close_text line_of
returns c =
    rw (c.with_bytes-2.ensures, c.with_decimal.ensures, c.from.ensures, c.row.ensures, c.with_bytes.ensures, c.empty.ensures)
    (simp (cut_append, append_assoc) (simp append_assoc at (uncut (refused_close_text (row_number c.args.refusal)) (refused_close_room _))))
