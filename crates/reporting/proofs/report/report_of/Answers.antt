-- `reporting::report::report_of` meets its contract. The invariant: the state so far and the pieces that are left print what the input prints.
use mathlib.Core.List.{List}
use mathlib.Core.Path.{◌≡◌, ◌∙◌}
use Prim.Native.Nat.{ℕ}
use lib.ListN.{length}
use Rattle.std.specs.Slice.Iter.{chunks_rest}
use Rattle.depot.specs.declared.state.Depot.{Depot}
use Rattle.reporting.specs.Report.{closing_text, pieces_of, report_from, report_of}
use Rattle.reporting.proofs.Laws.Pieces.{IsNextPiece, no_piece}
use Rattle.reporting.proofs.Laws.Run.{after_taken, after_refused}
use Rattle.reporting.proofs.report.report_of.Goals as goal
use Rattle.reporting.proofs.report.report_of.Goals.{In-Some}

-- nothing is left
at_end : (s : Depot) (rest : List ℕ) → length rest ≡ 0 → closing_text s ≡ report_from s s.blocks (pieces_of rest)
unfolding report_from
at_end s rest e = rw (no_piece rest e)

pub loop-piece-init : goal.loop-piece-init
unfolding report_of
loop-piece-init c =
    let same = c.into_iter-piece-iterator.ensures.into_iter_gives in (
      rw same c.chunks-piece-items.ensures.size,
      rw (same, c.chunks-piece-items.ensures.rest, c.fresh-depot.ensures),
    )

-- the next piece comes off what is left
comes : (c : In-Some) → IsNextPiece (chunks_rest c.loop-piece.piece-iterator) c.in-Some.piece.now (chunks_rest c.next.new.self)
comes c =
    let steps = c.in-Some.ensures.steps in
    record { some = steps.1.2; parts = steps.1.0; size = rw c.loop-piece.invariant.0 at steps.1.1 }

pub returns-in-Err : goal.returns-in-Err
returns-in-Err c =
    c.refused_block.ensures
    ∙ rw c.in-Err.ensures.as_before (after_refused _ _ _ _ (comes (goal.at-returns-in-Err c).In-Some) _ _ c.load.ensures.told _ c.in-Err.is)
    ∙ c.loop-piece.invariant.1

pub loop-piece-preserved : goal.loop-piece-preserved
loop-piece-preserved c = (
  c.in-Some.ensures.steps.0 ∙ c.loop-piece.invariant.0,
  after_taken _ _ _ _ (comes (goal.at-loop-piece-preserved c).In-Some) _ _ c.load.ensures.told _ c.in_default.is ∙ c.loop-piece.invariant.1,
)

pub returns : goal.returns
returns c = c.closing.ensures ∙ at_end _ _ c.in-None.ensures.steps.1.0 ∙ c.loop-piece.invariant.1
