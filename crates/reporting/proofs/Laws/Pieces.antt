-- The pieces of an input: how it is cut into them, and those behind a piece are the pieces of what is left behind it.
use mathlib.Core.List.{List, [], ◌∷◌, ◌++◌}
use mathlib.Core.Path.{◌≡◌, refl, sym, subst, ◌∙◌}
use Prim.Native.Nat.{ℕ, zero, suc, min, ◌+◌, ◌*◌, ◌-◌, ◌≤◌, ◌<◌}
use native.Mathlib.Decide.{dec_le}
use native.Mathlib.Nat.{le_refl, lt_of_not-le}
use native.Mathlib.Omega.{arith}
use lib.ListN.{length, take, drop, length-take, length-drop, length-append, take-append-drop}
use lib.Seq.{length-take-le, take_all, take_at, drop_at, take-append-le, drop-append-le, take-take}
use Rattle.std.proofs.lemmas.List.{take_min, drop_min}
use Rattle.little_endian.specs.Bytes.{IsBytes}
use Rattle.little_endian.proofs.Laws.Bytes.{bytes_take, bytes_drop}
use Rattle.blocks.specs.Lists.{All}
use Rattle.blocks.proofs.Laws.Lists.{take_drop}
use Rattle.reporting.specs.Report.{pieces_by, pieces_of}
use Rattle.reporting.specs.Demand.{AreCut, at_end, full, short}

none_by : (most : ℕ) → pieces_by most [] ≡ []
unfolding pieces_by
none_by zero = refl
none_by (suc most) = refl

-- the count that runs out does not matter while it is at least the length
enough : (m n : ℕ) (input : List ℕ) → length input ≤ m → length input ≤ n → pieces_by m input ≡ pieces_by n input
unfolding pieces_by
enough zero n [] h k = sym (none_by n)
enough zero n (b ∷ input) h k = absurd (omega arith)
enough (suc m) n [] h k = sym (none_by n)
enough (suc m) zero (b ∷ input) h k = absurd (omega arith)
enough (suc m) (suc n) (b ∷ input) h k = rw (enough m n (drop 512 (b ∷ input)) (rw length-drop (omega arith)) (rw length-drop (omega arith)))

no_bytes : (xs : List ℕ) → length xs ≡ 0 → xs ≡ []
no_bytes [] e = refl
no_bytes (x ∷ xs) e = absurd (omega arith)

pub first_piece : (input : List ℕ) → 0 < length input → pieces_of input ≡ take 512 input ∷ pieces_of (drop 512 input)
unfolding pieces_of pieces_by
first_piece [] h = absurd (omega arith)
first_piece (b ∷ input) h =
    let rest = drop 512 (b ∷ input) in
    rw (enough (length input) (length rest) rest (rw length-drop (omega arith)) (le_refl (length rest)))

pub no_piece : (input : List ℕ) → length input ≡ 0 → pieces_of input ≡ []
unfolding pieces_of
no_piece input e = rw (no_bytes input e) (none_by 0)

-- the next piece of an input has 512 bytes, or all that there are
pub record IsNextPiece (input piece rest : List ℕ) : Type 0 where
  pub some : 0 < length input
  pub parts : input ≡ piece ++ rest
  pub size : length piece ≡ min 512 (length input)

pub next_piece : (input piece rest : List ℕ) → IsNextPiece input piece rest → pieces_of input ≡ piece ∷ pieces_of rest
next_piece input piece rest is =
    let first : take 512 input ≡ piece = sym (take_min 512 input) ∙ rw (← is.size, is.parts) (take_at piece rest (length piece) refl) in
    let left : drop 512 input ≡ rest = sym (drop_min 512 input) ∙ rw (← is.size, is.parts) (drop_at piece rest (length piece) refl) in
    rw (← first, ← left) (first_piece input is.some)

-- ---- how an input is cut, and the bytes of its pieces

cut_by : (most : ℕ) (input : List ℕ) → length input ≤ most → AreCut input (pieces_by most input)
unfolding pieces_by
cut_by zero [] h = at_end
cut_by zero (b ∷ input) h = absurd (omega arith)
cut_by (suc most) [] h = at_end
cut_by (suc most) (b ∷ input) h =
    go (dec_le 512 (length (b ∷ input))) (cut_by most (drop 512 (b ∷ input)) (rw (length-drop 512 (b ∷ input)) (omega (arith, h))))
  where
    all : List ℕ
    all = b ∷ input

    go : Dec (512 ≤ length all) → AreCut (drop 512 all) (pieces_by most (drop 512 all)) → AreCut all (take 512 all ∷ pieces_by most (drop 512 all))
    go (yes l) rest = subst (λ (x : List ℕ). AreCut x (take 512 all ∷ pieces_by most (drop 512 all))) (take-append-drop 512 all) (full (take 512 all) (length-take-le 512 all l) rest)
    go (no l) rest =
        let less : length all < 512 = lt_of_not-le l in
        let nothing : drop 512 all ≡ [] = no_bytes (drop 512 all) (length-drop 512 all ∙ omega arith) in
        rw (take_all 512 all (omega arith), nothing, none_by most) (short all (omega arith) less)

pub pieces_cut : (input : List ℕ) → AreCut input (pieces_of input)
unfolding pieces_of
pieces_cut input = cut_by (length input) input (le_refl (length input))

bytes_by : (most : ℕ) (input : List ℕ) → IsBytes input → All IsBytes (pieces_by most input)
unfolding pieces_by
bytes_by zero input are = tt
bytes_by (suc most) [] are = tt
bytes_by (suc most) (b ∷ input) are = (bytes_take 512 (b ∷ input) are, bytes_by most (drop 512 (b ∷ input)) (bytes_drop 512 (b ∷ input) are))

pub pieces_bytes : (input : List ℕ) → IsBytes input → All IsBytes (pieces_of input)
unfolding pieces_of
pieces_bytes input are = bytes_by (length input) input are

-- ---- the pieces of an input's first bytes

pub first_of : (n : ℕ) (input : List ℕ) → 0 < length input → pieces_of (take (512 + n) input) ≡ take 512 input ∷ pieces_of (take n (drop 512 input))
first_of n input h =
    let some : 0 < length (take (512 + n) input) = rw (length-take (512 + n) input) (omega arith) in
    let same : 512 + n - 512 ≡ n = omega arith in
    first_piece (take (512 + n) input) some ∙ rw (take-take 512 (512 + n) input (omega arith), ← take_drop 512 (512 + n) input, same)

-- ---- the pieces of whole blocks and what follows them

pub pieces_append : (k : ℕ) (input rest : List ℕ) → length input ≡ 512 * k → pieces_of (input ++ rest) ≡ pieces_of input ++ pieces_of rest
pieces_append zero input rest e = rw (no_bytes input e, no_piece [] refl)
pieces_append (suc k) input rest e =
    let whole : 512 ≤ length input = omega (arith, e) in
    let more : 0 < length (input ++ rest) = rw (length-append input rest) (omega arith) in
    let left : length (drop 512 input) ≡ 512 * k = length-drop 512 input ∙ omega (arith, e) in
    rw (first_piece (input ++ rest) more, first_piece input (omega arith), take-append-le 512 input rest whole, drop-append-le 512 input rest whole)
    (rw (pieces_append k (drop 512 input) rest left))
