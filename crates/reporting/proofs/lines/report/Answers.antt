-- `reporting::lines::report` meets its contract: the five lines are those of the definition, and have room.
use mathlib.Core.List.{append_assoc}
use Rattle.text.specs.Text.{ascii}
use Rattle.text.proofs.Laws.Cut.{uncut, cut_append}
use Rattle.reporting.specs.Report.{report_text}
use Rattle.reporting.proofs.Laws.Lines.{report_room}
use Rattle.reporting.proofs.lines.report.Goals as goal

pub returns : goal.returns
unfolding ascii report_text
returns c =
    rw (c.with_figure.ensures, c.with_figure-with_low.ensures, c.with_count-over.ensures, c.with_count-parked.ensures)
    (rw (c.with_count-moved.ensures, c.empty.ensures)
    (simp (cut_append, append_assoc) (uncut (report_text c.args.depot.moved c.args.depot.parked c.args.depot.over c.args.bracket.low c.args.bracket.high) (report_room _ _ _ _ _))))
