-- Demand 3 carried to a report: what is printed is what the book of the input's pieces says, and request E3 of two reports; proofs/Demand and
-- proofs/Editions have the proofs.
use Rattle.std.specs.Prelude.{◌≡◌, false, List, [], ◌∷◌, ◌++◌, ℕ, ◌≤◌, ◌<◌, length}
use Rattle.std.proofs.Math.Option.{some}
use Rattle.little_endian.specs.Bytes.{IsBytes}
use Rattle.numbers.specs.declared.number.Number.{Number}
use Rattle.blocks.specs.Block.{fields_of}
use Rattle.depot.specs.Figures.{is_parked, is_over, given}
use Rattle.depot.specs.Depot.{is_negative_number}
use Rattle.depot.specs.Book.{Book, vans_of, book_row, IsSequence, count_by, moved_count, exact_mean, vans_figures}
use Rattle.depot.specs.Demand.{IsBracket}
use Rattle.reporting.specs.Report.{report_text, refused_block_text, refused_close_text, pieces_of, report_of}

-- An input in its pieces: each has 512 bytes, but one at its end may have fewer, and none is empty.
pub data AreCut : List ℕ → List (List ℕ) → Type 0 where
  at_end : AreCut [] []
  full : (piece : List ℕ) {rest : List ℕ} {pieces : List (List ℕ)} → length piece ≡ 512 → AreCut rest pieces → AreCut (piece ++ rest) (piece ∷ pieces)
  short : (piece : List ℕ) → 1 ≤ length piece → length piece < 512 → AreCut piece (piece ∷ [])

-- What is printed for some pieces, by the book: one of three texts. Pieces that an empty book takes, each of them, are that book (`IsSequence`).
pub data IsPrinted (pieces : List (List ℕ)) : List ℕ → Type 0 where
  -- All are taken and a van moved: the counts of the vans taken, and the figures, which bracket the exact mean. Neither is negative, and a figure is printed
  -- without a sign.
  some_moved : (low high : Number) → IsSequence pieces → 1 ≤ moved_count (vans_of pieces) → vans_figures (vans_of pieces) ≡ given low high
      → IsBracket (exact_mean (vans_of pieces)) (moved_count (vans_of pieces)) low high → is_negative_number low ≡ false → is_negative_number high ≡ false
      → IsPrinted pieces (report_text (moved_count (vans_of pieces)) (count_by is_parked (vans_of pieces)) (count_by is_over (vans_of pieces)) low high)
  -- all are taken and no van moved
  none_moved : IsSequence pieces → moved_count (vans_of pieces) ≡ 0 → IsPrinted pieces (refused_close_text 17)
  -- those before one are taken, and that one is refused by the row that applies to it
  one_refused : (before : Book) (piece : List ℕ) (behind : List (List ℕ)) (row : ℕ) → pieces ≡ before ++ (piece ∷ behind) → IsSequence before
      → book_row before piece ≡ some row → IsPrinted pieces (refused_block_text row (length before))

-- of every input of bytes
unfoldable pub ReportsHold : Type 0
ReportsHold = (input : List ℕ) → IsBytes input → AreCut input (pieces_of input) × IsPrinted (pieces_of input) (report_of input)

-- Request E3: "A depot's figures don't depend on its edition": two inputs, in whatever editions, whose pieces are all taken and whose vans have the same five
-- fields print the same.
unfoldable pub ReportEditionFree : Type 0
ReportEditionFree = (x y : List ℕ) → IsBytes x → IsBytes y → IsSequence (pieces_of x) → IsSequence (pieces_of y)
    → fields_of (vans_of (pieces_of x)) ≡ fields_of (vans_of (pieces_of y)) → report_of x ≡ report_of y
