-- `reporting::lines::with_count` meets its contract: a name, a count and a newline are a line.
use mathlib.Core.List.{append_assoc}
use Rattle.text.specs.Text.{ascii}
use Rattle.text.proofs.Laws.Cut.{cut_append}
use Rattle.reporting.specs.Report.{line_of}
use Rattle.reporting.proofs.lines.with_count.Goals as goal

pub returns : goal.returns
unfolding ascii line_of
returns c =
    rw (c.with_bytes-2.ensures, c.with_decimal.ensures, c.from.ensures, c.with_bytes.ensures) (simp (cut_append, append_assoc))
