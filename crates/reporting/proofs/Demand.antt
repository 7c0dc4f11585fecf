-- Demand 3 of a report, proved: the state after the pieces that were taken is that of the book, so what is printed is what the book says.
use mathlib.Core.Bool.{Bool, true, false}
use mathlib.Core.List.{List, [], ◌∷◌, ◌++◌, append-nil, append_assoc}
use mathlib.Core.Option.{Option, none, some}
use mathlib.Core.Path.{◌≡◌, refl, ◌∙◌}
use Prim.Native.Nat.{ℕ, suc, ◌≤◌}
use native.Mathlib.Nat.{pos_of_ne-zero}
use borrow.Author.Tests.{eqb-true, eqb-false}
use lib.Dec.{eqb}
use lib.ListN.{length}
use Rattle.little_endian.specs.Bytes.{IsBytes}
use Rattle.numbers.specs.Fraction.{value, quotient}
use Rattle.numbers.specs.declared.number.Number.{Number}
use Rattle.numbers.specs.declared.task.Mode.{Mode}
use Rattle.numbers.specs.declared.task.Mode.TheVariants.{Up, Down}
use Rattle.blocks.specs.Lists.{All}
use Rattle.depot.specs.Figures.{whole, mean_of, given, refused, figures_by}
use Rattle.depot.specs.Depot.{is_negative_number, figures_of}
use Rattle.depot.specs.Book.{Book, vans_of, book_row, added_by, offered, offered_all, IsTaken, IsSequence, moved_count, total_of, vans_figures}
use Rattle.depot.proofs.Demand.{figures_bracketed}
use Rattle.depot.proofs.Laws.Amounts.{part_amount}
use Rattle.depot.proofs.Laws.Bracket.{IsSum, value_amount, round_sum}
use Rattle.depot.proofs.Laws.Sequence.{sequence_more}
use Rattle.depot.proofs.Laws.Reached.{state_of, begun, IsReached, reached_empty, sums_bracketed, length_more, load_agrees, next_reached, figures_agree}
use Rattle.reporting.specs.Report.{closing_by, closing_text, pieces_of, after_block, report_from, report_of}
use Rattle.reporting.specs.Demand.{IsPrinted, some_moved, none_moved, one_refused, ReportsHold}
use Rattle.reporting.proofs.Laws.Pieces.{pieces_cut, pieces_bytes}

-- ---- the end of the input

-- the mean of a sum is not negative
not_negative : (mode : Mode) (total : Number) (n : ℕ) → 1 ≤ n → IsSum total → is_negative_number (mean_of mode total n) ≡ false
unfolding mean_of
not_negative mode total n h is = (round_sum mode (quotient (value total) (whole n)) (part_amount (value total) n h (value_amount total is))).plus

closing : (book : Book) → IsReached book → IsSequence book → IsPrinted book (closing_text (state_of book))
unfolding closing_text closing_by vans_figures figures_by state_of
closing book reached all = go (eqb moved 0) refl
  where
    moved : ℕ
    moved = moved_count (vans_of book)

    go : (t : Bool) → eqb moved 0 ≡ t → IsPrinted book (closing_text (state_of book))
    go true e =
        let is : figures_of (state_of book) ≡ refused 17 = figures_agree book reached ∙ rw e in
        rw is (none_moved all (eqb-true moved 0 e))
    go false e =
        let low = mean_of Down (total_of Down (vans_of book)) moved in
        let high = mean_of Up (total_of Up (vans_of book)) moved in
        let of : vans_figures (vans_of book) ≡ given low high = rw e in
        let is : figures_of (state_of book) ≡ given low high = figures_agree book reached ∙ of in
        let moved-some = pos_of_ne-zero (eqb-false moved 0 e) in
        let sums = sums_bracketed book reached in
        rw is (some_moved low high all moved-some of (figures_bracketed book reached low high is) (not_negative Down _ moved moved-some sums.low_sum) (not_negative Up _ moved moved-some sums.high_sum))

-- ---- piece by piece

-- from a book of pieces that were all taken
printed_from : (pieces : List (List ℕ)) (book : Book) → IsReached book → IsSequence book → All IsBytes pieces
    → IsPrinted (book ++ pieces) (report_from (state_of book) (length book) pieces)
unfolding report_from after_block offered added_by
printed_from [] book reached all are = rw (append-nil book) (closing book reached all)
printed_from (piece ∷ pieces) book reached all are =
    rw (load_agrees book piece reached) (go (book_row book piece) refl (λ next all-next. printed_from pieces (book ++ (piece ∷ [])) next all-next are.1))
  where
    taken : book_row book piece ≡ none → offered book piece ≡ book ++ (piece ∷ [])
    taken is = rw is

    -- what the rest prints, where the piece is taken
    Rest : Type 0
    Rest = IsReached (book ++ (piece ∷ [])) → IsSequence (book ++ (piece ∷ []))
        → IsPrinted ((book ++ (piece ∷ [])) ++ pieces) (report_from (state_of (book ++ (piece ∷ []))) (length (book ++ (piece ∷ []))) pieces)

    go : (row : Option ℕ) → book_row book piece ≡ row → Rest
        → IsPrinted (book ++ (piece ∷ pieces)) (after_block row (length book) (report_from (state_of (offered book piece)) (suc (length book)) pieces))
    go none is rest =
        rw (taken is, ← length_more book piece, ← append_assoc book (piece ∷ []) pieces)
        (rest (next_reached book piece are.0 reached is) (sequence_more book piece all is))
    go (some row) is rest = one_refused book piece pieces row refl all is

pub reports_hold : ReportsHold
unfolding ReportsHold report_of IsSequence IsTaken offered_all
reports_hold input are = (pieces_cut input, rw (← begun) (printed_from (pieces_of input) [] reached_empty refl (pieces_bytes input are)))
