-- `reporting::lines::refused_block` meets its contract: the text is that of the definition, and has room.
use mathlib.Core.List.{append_assoc}
use Rattle.refusals.specs.Row.{row_number}
use Rattle.text.specs.Text.{ascii}
use Rattle.text.proofs.Laws.Cut.{uncut, cut_append}
use Rattle.reporting.specs.Report.{line_of, refused_block_text}
use Rattle.reporting.proofs.Laws.Lines.{refused_block_room}
use Rattle.reporting.proofs.lines.refused_block.Goals as goal

pub returns : goal.returns
unfolding ascii refused_block_text line_of
returns c =
    rw (c.with_bytes-3.ensures, c.with_decimal-2.ensures, c.from-2.ensures, c.with_bytes-2.ensures, c.with_decimal.ensures, c.from.ensures, c.row.ensures)
    (rw (c.with_bytes.ensures, c.empty.ensures)
    (simp (cut_append, append_assoc) (simp append_assoc at (uncut (refused_block_text (row_number c.args.refusal) c.args.position) (refused_block_room _ _)))))
