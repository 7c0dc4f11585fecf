-- A report does not depend on the edition, proved: where all pieces are taken, what is printed is decided by the counts and figures of the state after them.
use mathlib.Core.List.{List, [], ◌∷◌, ◌++◌}
use mathlib.Core.Option.{none}
use mathlib.Core.Path.{◌≡◌, refl, sym, ap, ◌∙◌}
use Prim.Native.Nat.{ℕ, suc}
use Rattle.little_endian.specs.Bytes.{IsBytes}
use Rattle.blocks.specs.Lists.{All}
use Rattle.blocks.specs.Block.{fields_of}
use Rattle.depot.specs.Figures.{Figures, given, refused}
use Rattle.depot.specs.Depot.{fresh, Loaded, load_of, figures_of}
use Rattle.depot.specs.Book.{Book, vans_of, IsTaken, IsSequence}
use Rattle.depot.specs.Calls.{Call, depot_after, book_after}
use Rattle.depot.specs.Demand.{SameFigures, EditionFree}
use Rattle.depot.specs.declared.state.Depot.{Depot}
use Rattle.depot.proofs.Editions.{edition_free}
use Rattle.depot.proofs.Laws.Reached.{state_of, begun, IsReached, reached_empty, load_agrees, next_reached, next_state, offers, book_of_calls}
use Rattle.depot.proofs.Laws.Sequence.{first_taken}
use Rattle.reporting.specs.Report.{closing_by, closing_text, pieces_of, after_block, report_from, report_of}
use Rattle.reporting.specs.Demand.{ReportEditionFree}
use Rattle.reporting.proofs.Laws.Pieces.{pieces_bytes}

-- pieces that are all taken print what the state after them closes with
taken_closes : (pieces : List (List ℕ)) (are : All IsBytes pieces) (book : Book) (position : ℕ) → IsReached book → IsTaken book pieces
    → report_from (state_of book) position pieces ≡ closing_text (depot_after (state_of book) (offers pieces are))
unfolding report_from after_block depot_after
taken_closes [] are book position reached taken = refl
taken_closes (piece ∷ pieces) are book position reached taken =
    let s = state_of book in
    let first = first_taken book piece pieces taken in
    let row : (load_of s piece).refusal ≡ none = ap (λ (l : Loaded). l.refusal) (load_agrees book piece reached) ∙ first.0 in
    let next = taken_closes pieces are.1 (book ++ (piece ∷ [])) (suc position) (next_reached book piece are.0 reached first.0) first.1 in
    let rest : report_from (load_of s piece).depot (suc position) pieces ≡ closing_text (depot_after (load_of s piece).depot (offers pieces are.1)) =
    rw (next_state book piece reached first.0) next in
    rw row rest

-- which its counts and figures decide
same_closing : (s t : Depot) → SameFigures s t → closing_text s ≡ closing_text t
unfolding closing_text closing_by
same_closing s t same = rw same.figures (go (figures_of t))
  where
    go : (f : Figures) → closing_by s f ≡ closing_by t f
    go (given low high) = rw (same.moved, same.parked, same.over)
    go (refused row) = refl

-- an input whose pieces are all taken: the calls that offer them, its text, and its book
module _ (input : List ℕ) (are : IsBytes input) (all : IsSequence (pieces_of input)) where
  abbrev calls : List Call
  calls = offers (pieces_of input) (pieces_bytes input are)

  closes_with : report_of input ≡ closing_text (depot_after fresh calls)
  unfolding report_of IsSequence
  closes_with = rw (← begun) (taken_closes (pieces_of input) (pieces_bytes input are) [] 0 reached_empty all)

  book_is : book_after [] calls ≡ pieces_of input
  unfolding IsSequence IsTaken
  book_is = sym (book_of_calls (pieces_of input) (pieces_bytes input are) []) ∙ all

pub report_edition_free : ReportEditionFree
unfolding ReportEditionFree EditionFree
report_edition_free x y bytes-x bytes-y all-x all-y same =
    let xs = calls x bytes-x all-x in
    let ys = calls y bytes-y all-y in
    let alike : fields_of (vans_of (book_after [] xs)) ≡ fields_of (vans_of (book_after [] ys)) = rw (book_is x bytes-x all-x, book_is y bytes-y all-y) same in
    closes_with x bytes-x all-x ∙ same_closing (depot_after fresh xs) (depot_after fresh ys) (edition_free xs ys alike) ∙ sym (closes_with y bytes-y all-y)
