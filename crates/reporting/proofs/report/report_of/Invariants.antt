-- `reporting::report::report_of` meets its contract. The invariant: the state so far and the pieces that are left print what the input prints.
use mathlib.Core.Path.{◌≡◌}
use Rattle.std.specs.Slice.Iter.{chunks_rest, chunks_size}
use Rattle.reporting.specs.Report.{pieces_of, report_from, report_of}
use Rattle.reporting.proofs.report.report_of.Given as goal

abbrev pub invariant-loop-piece : goal.invariant-loop-piece
invariant-loop-piece l =
    (chunks_size l.piece-iterator ≡ 512) × (report_from l.depot l.depot.blocks (pieces_of (chunks_rest l.piece-iterator)) ≡ report_of l.input)
