-- `reporting::lines::closing` meets its contract: what asking for figures answers picks the text.
use Rattle.depot.specs.Figures.{bracket_figures}
use Rattle.reporting.specs.Report.{closing_by, closing_text}
use Rattle.reporting.proofs.lines.closing.Goals as goal

pub returns-in-Ok : goal.returns-in-Ok
unfolding closing_text closing_by bracket_figures
returns-in-Ok c = rw (c.report.ensures, ← c.figures.ensures, c.in-Ok.is)

pub returns-in-Err : goal.returns-in-Err
unfolding closing_text closing_by bracket_figures
returns-in-Err c = rw (c.refused_close.ensures, ← c.figures.ensures, c.in-Err.is)
