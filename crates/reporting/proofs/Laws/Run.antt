-- What is left to print after a piece, and how many pieces decide it. A piece that is taken is one of 205: the depot was open and fit, so it had taken fewer, and has then taken one more.
use mathlib.Core.List.{List, [], ◌∷◌, ◌++◌, append-nil, append_assoc}
use mathlib.Core.Option.{Option, none, some}
use mathlib.Core.Path.{◌≡◌, refl, sym, ap, ◌∙◌}
use Prim.Native.Nat.{ℕ, zero, suc, ◌+◌, ◌*◌, ◌<◌}
use native.Mathlib.Omega.{arith}
use lib.ListN.{length, take, drop}
use lib.Seq.{take-nil}
use Rattle.std.specs.Prelude.{Ok, Err}
use Rattle.std.specs.declared.result.Result.{Result}
use Rattle.refusals.specs.Row.{row_number, refusal_row}
use Rattle.refusals.specs.declared.Refusal.{Refusal}
use Rattle.little_endian.specs.Bytes.{IsBytes}
use Rattle.blocks.specs.Lists.{All}
use Rattle.blocks.specs.Block.{records_of}
use Rattle.depot.specs.Depot.{fresh, with_block, Loaded, load_of, loaded}
use Rattle.depot.specs.Book.{Book, book_row, IsTaken, IsSequence}
use Rattle.depot.specs.declared.state.Depot.{Depot}
use Rattle.depot.proofs.Laws.Room.{load_taken, blocks_few}
use Rattle.depot.proofs.Laws.Vans.{records_more}
use Rattle.depot.proofs.Laws.Reached.{state_of, begun, IsReached, reached_empty, load_agrees, next_reached, next_state}
use Rattle.depot.proofs.Laws.Sequence.{first_taken}
use Rattle.reporting.specs.Report.{refused_block_text, pieces_of, after_block, report_from, report_of}
use Rattle.reporting.proofs.Laws.Pieces.{IsNextPiece, first_piece, next_piece, first_of, pieces_append}

-- the state with a block more has taken one block more
one_more : (s : Depot) (block : List ℕ) → (with_block s block).blocks ≡ suc s.blocks
unfolding with_block
one_more s block = ap (λ (d : Depot). suc d.blocks) (records_more s (records_of block))

-- a state that has taken one of 205 blocks more
record IsNext (s d : Depot) : Type 0 where
  few : s.blocks < 205
  more : d.blocks ≡ suc s.blocks

next : (s : Depot) (block : List ℕ) → (load_of s block).refusal ≡ none → IsNext s (load_of s block).depot
next s block e =
    let taken = load_taken s block e in
    record { few = blocks_few s block taken.0; more = ap (λ (d : Depot). d.blocks) taken.1 ∙ one_more s block }

-- ---- a piece that was loaded

module _ (s : Depot) (input piece rest : List ℕ) (is : IsNextPiece input piece rest)
    (answer : Result Unit Refusal) (left : Depot) (told : loaded answer left ≡ load_of s piece) where
  -- its row, and what the rest would print
  by_row : after_block (refusal_row answer) s.blocks (report_from left (suc s.blocks) (pieces_of rest)) ≡ report_from s s.blocks (pieces_of input)
  unfolding report_from loaded
  by_row = rw (next_piece input piece rest is, ← told)

  pub after_taken : (u : Unit) → answer ≡ Ok u → report_from left left.blocks (pieces_of rest) ≡ report_from s s.blocks (pieces_of input)
  unfolding after_block refusal_row loaded
  after_taken u e =
      let row : refusal_row answer ≡ none = ap refusal_row e in
      let on : left.blocks ≡ suc s.blocks = rw (← told) at (next s piece (ap (λ (x : Loaded). x.refusal) (sym told) ∙ row)).more in
      ap (λ (position : ℕ). report_from left position (pieces_of rest)) on ∙ rw row at by_row

  pub after_refused : (refusal : Refusal) → answer ≡ Err refusal → refused_block_text (row_number refusal) s.blocks ≡ report_from s s.blocks (pieces_of input)
  unfolding after_block refusal_row
  after_refused refusal e = rw e at by_row

-- ---- a refused piece decides

-- one of some pieces is refused
pub data IsRefused : Depot → List (List ℕ) → Type 0 where
  here : {s : Depot} {piece : List ℕ} {pieces : List (List ℕ)} (row : ℕ) → (load_of s piece).refusal ≡ some row → IsRefused s (piece ∷ pieces)
  later : {s : Depot} {piece : List ℕ} {pieces : List (List ℕ)} → IsRefused (load_of s piece).depot pieces → IsRefused s (piece ∷ pieces)

behind_refused : {s : Depot} {pieces : List (List ℕ)} (position : ℕ) (behind : List (List ℕ)) → IsRefused s pieces → report_from s position (pieces ++ behind) ≡ report_from s position pieces
unfolding report_from after_block
behind_refused position behind (here row e) = rw e
behind_refused position behind (later more) = rw (behind_refused (suc position) behind more)

-- An input of whole blocks, one of which is refused, prints the same whatever follows: nothing behind it need be read.
pub refused_decides : (k : ℕ) (input rest : List ℕ) → length input ≡ 512 * k → IsRefused fresh (pieces_of input) → report_of (input ++ rest) ≡ report_of input
unfolding report_of
refused_decides k input rest e more = rw (pieces_append k input rest e) (behind_refused 0 (pieces_of rest) more)

-- pieces that are all taken, and one behind them that is not
refused_behind : (book before : Book) (piece : List ℕ) (behind : List (List ℕ)) (row : ℕ) → IsReached book → IsTaken book before → All IsBytes before
    → book_row (book ++ before) piece ≡ some row → IsRefused (state_of book) (before ++ (piece ∷ behind))
refused_behind book [] piece behind row reached taken are e =
    here row (ap (λ (l : Loaded). l.refusal) (load_agrees book piece reached) ∙ rw append-nil at e)
refused_behind book (block ∷ before) piece behind row reached taken are e =
    let first = first_taken book block before taken in
    let next = refused_behind (book ++ (block ∷ [])) before piece behind row (next_reached book block are.0 reached first.0) first.1 are.1 (rw append_assoc e) in
    let rest : IsRefused (load_of (state_of book) block).depot (before ++ (piece ∷ behind)) = rw (next_state book block reached first.0) next in
    later rest

-- An input of whole blocks, all taken but the last, prints the same whatever follows.
pub last_decides : (k : ℕ) (input rest : List ℕ) (before : Book) (piece : List ℕ) (row : ℕ) → length input ≡ 512 * k → pieces_of input ≡ before ++ (piece ∷ []) → IsSequence before
    → All IsBytes before → book_row before piece ≡ some row → report_of (input ++ rest) ≡ report_of input
unfolding IsSequence
last_decides k input rest before piece row size cut taken are e =
    refused_decides k input rest size (rw (cut, ← begun) (refused_behind [] before piece [] row reached_empty taken are e))

-- ---- the first 206 pieces decide

-- An input and its first 512 + n bytes print the same, if the rest and its first n do where the first piece is taken.
module _ (n : ℕ) (s : Depot) (position : ℕ) where
  abbrev Rest : List ℕ → Type 0
  Rest input = let d = (load_of s (take 512 input)).depot in
      IsNext s d → report_from d (suc position) (pieces_of (take n (drop 512 input))) ≡ report_from d (suc position) (pieces_of (drop 512 input))

  first_same : (input : List ℕ) → Rest input → report_from s position (pieces_of (take (512 + n) input)) ≡ report_from s position (pieces_of input)
  unfolding report_from after_block
  first_same [] same = rw (take-nil {A = ℕ} (512 + n))
  first_same (b ∷ input) same =
      rw (first_of n (b ∷ input) (omega arith), first_piece (b ∷ input) (omega arith)) (go (load_of s (take 512 (b ∷ input))).refusal refl)
    where
      d : Depot
      d = (load_of s (take 512 (b ∷ input))).depot

      left : List ℕ
      left = drop 512 (b ∷ input)

      go : (row : Option ℕ) → (load_of s (take 512 (b ∷ input))).refusal ≡ row
          → after_block row position (report_from d (suc position) (pieces_of (take n left))) ≡ after_block row position (report_from d (suc position) (pieces_of left))
      go none is = same (next s (take 512 (b ∷ input)) is)
      go (some row) is = refl

decided : (k : ℕ) (s : Depot) (position : ℕ) (input : List ℕ) → s.blocks + k ≡ 205
    → report_from s position (pieces_of (take (512 + 512 * k) input)) ≡ report_from s position (pieces_of input)
decided zero s position input e = first_same (512 * 0) s position input (λ on. absurd (omega (arith, on.few)))
decided (suc k) s position input e =
    let at : 512 * suc k ≡ 512 + 512 * k = omega arith in
    rw at (first_same (512 + 512 * k) s position input (λ on. decided k (load_of s (take 512 input)).depot (suc position) (drop 512 input) (omega (arith, on.more))))

-- A depot takes 205 blocks at most, and one piece more is refused: the bytes of 206 blocks decide what is printed.
pub enough_read : (input : List ℕ) → report_of (take 105472 input) ≡ report_of input
unfolding report_of
enough_read input = decided 205 fresh 0 input refl
