-- Numbers and their sixteen bytes: each way undoes the other, so that every number has one layout and no other bytes are a number.
use mathlib.Core.Path.{◌≡◌, refl, sym, ◌∙◌}
use mathlib.Core.Bool.{Bool, true, false, ◌&&◌, cond, and-eq-true_iff}
use mathlib.Core.List.{List, ◌++◌}
use Rattle.std.specs.Prelude.{Some, None}
use Prim.Native.Nat.{ℕ, ◌^◌, ◌≤◌, ◌<◌}
use native.Mathlib.Omega.{arith}
use lib.Dec.{lit≤, ltb, leb, eqb}
use lib.IntN.{ℤ, pos, negsuc, neg_ℤ}
use lib.ListN.{length, take, drop, length-drop, take-append-drop}
use lib.Seq.{drop-drop}
use lib.Signed.{mag}
use borrow.Author.Tests.{leb-true, ltb-true, ltb-false, eqb-true, eqb-false}
use Rattle.little_endian.specs.Bytes.{little_endian, bytes_of, IsBytes}
use Rattle.little_endian.proofs.Laws.Bytes.{little_endian_bytes, bytes_little_endian, bytes_take, bytes_drop, bytes_are, joined_bytes, first_length}
use Rattle.numbers.specs.Number.{is_between}
use Rattle.numbers.specs.declared.number.Number.{Number}
use Rattle.numbers.specs.declared.number.Number.TheVariants.{Zero, Finite}
use Rattle.numbers.proofs.Laws.Tests.{never}
use Rattle.export.specs.Layout.{word_of, exponent_in, kind_of, layout_of, has_layout, number_of, number_in}
use Rattle.export.proofs.Laws.Exponents.{exponent_word, word_exponent, word_below, kind_most}
use Rattle.export.proofs.Laws.Words.{middle_four, middle_below}

-- the sixteen bytes of a number are bytes
pub layout_length : (x : Number) → length (layout_of x) ≡ 16
unfolding layout_of bytes_of
layout_length Zero = refl
layout_length (Finite negative e S) = refl

pub layout_bytes : (x : Number) → IsBytes (layout_of x)
unfolding layout_of
layout_bytes Zero = bytes_are 16 0
layout_bytes (Finite negative e S) =
    joined_bytes (bytes_of 8 S) _ (bytes_are 8 S) (joined_bytes (bytes_of 4 (word_of e)) _ (bytes_are 4 (word_of e)) (bytes_are 4 (kind_of negative)))

-- ---- written and read

-- an exponent between the two ends has 32 bits
exponent_bits_are : (e : ℤ) → is_between (neg_ℤ (pos 0x80000000)) (pos 0x7fffffff) e ≡ true → mag e < 2 ^ 31
unfolding is_between
exponent_bits_are (pos n) h = omega (arith, leb-true n 0x7fffffff h)
exponent_bits_are (negsuc n) h = omega (arith, leb-true n 0x7fffffff ((and-eq-true_iff (leb n 0x7fffffff) true).0 h).0)

kind_number : (negative : Bool) (w S : ℕ) → number_of (kind_of negative) w S ≡ Some (Finite negative (exponent_in w) S)
unfolding number_of
kind_number true w S = refl
kind_number false w S = refl

fields : (negative : Bool) (e : ℤ) (S : ℕ)
    → number_in (layout_of (Finite negative e S)) ≡ number_of (little_endian (bytes_of 4 (kind_of negative))) (little_endian (bytes_of 4 (word_of e))) (little_endian (bytes_of 8 S))
unfolding number_in layout_of bytes_of
fields negative e S = refl

zero_read : number_in (layout_of Zero) ≡ Some Zero
unfolding number_in layout_of bytes_of little_endian number_of
zero_read = refl

pub layout_read : (x : Number) → has_layout x ≡ true → number_in (layout_of x) ≡ Some x
unfolding has_layout
layout_read Zero h = zero_read
layout_read (Finite negative e S) h =
    let both = (and-eq-true_iff (is_between (neg_ℤ (pos 0x80000000)) (pos 0x7fffffff) e) (ltb S (2 ^ 64))).0 h in
    let small : mag e < 2 ^ 31 = exponent_bits_are e both.0 in
    let kind = little_endian_bytes 4 (kind_of negative) (omega (arith, kind_most negative)) in
    let word = little_endian_bytes 4 (word_of e) (word_below e small) in
    let significand = little_endian_bytes 8 S (ltb-true S (2 ^ 64) both.1) in
    fields negative e S ∙ rw (kind, word, significand, kind_number negative (word_of e) S, exponent_word e small)

-- ---- read and written

kind_read : (kind : ℕ) → 0 < kind → kind ≤ 2 → kind_of (eqb kind 2) ≡ kind
kind_read kind least most = go (eqb kind 2) refl
  where
    go : (t : Bool) → eqb kind 2 ≡ t → cond t 2 1 ≡ kind
    go true e = sym (eqb-true kind 2 e)
    go false e = let other = eqb-false kind 2 e in omega arith

-- the bytes of the fields that make a number are those of the number
number_fields : (kind w S : ℕ) (x : Number) → w < 2 ^ 32 → number_of kind w S ≡ Some x → layout_of x ≡ bytes_of 8 S ++ (bytes_of 4 w ++ bytes_of 4 kind)
unfolding number_of layout_of bytes_of
number_fields kind w S x below h = go (ltb 2 kind) (ltb 0 kind) (eqb S 0) (eqb w 0) refl refl refl refl h
  where
    go : (t u v z : Bool) → ltb 2 kind ≡ t → ltb 0 kind ≡ u → eqb S 0 ≡ v → eqb w 0 ≡ z
        → cond t None (cond u (Some (Finite (eqb kind 2) (exponent_in w) S)) (cond (v && z) (Some Zero) None)) ≡ Some x
        → layout_of x ≡ bytes_of 8 S ++ (bytes_of 4 w ++ bytes_of 4 kind)
    go true u v z et eu ev ez e = never cc
    go false true v z et eu ev ez e =
        let is : x ≡ Finite (eqb kind 2) (exponent_in w) S = cc in
        rw (is, word_exponent w below, kind_read kind (ltb-true 0 kind eu) (ltb-false 2 kind et))
    go false false true true et eu ev ez e =
        let is : x ≡ Zero = cc in
        let no_kind : kind ≡ 0 = omega (arith, ltb-false 0 kind eu) in
        rw (is, no_kind, eqb-true w 0 ez, eqb-true S 0 ev)
    go false false true false et eu ev ez e = never cc
    go false false false z et eu ev ez e = never cc

pub read_layout : (bytes : List ℕ) (x : Number) → length bytes ≡ 16 → IsBytes bytes → number_in bytes ≡ Some x → layout_of x ≡ bytes
unfolding number_in
read_layout bytes x count are h =
    let first = rw (first_length 8 16 (lit≤ tt) bytes count) at (bytes_little_endian (take 8 bytes) (bytes_take 8 bytes are)) in
    let middle = rw (middle_four bytes are count) at (bytes_little_endian (take 4 (drop 8 bytes)) (bytes_take 4 (drop 8 bytes) (bytes_drop 8 bytes are))) in
    let last = rw (length-drop 12 bytes, count) at (bytes_little_endian (drop 12 bytes) (bytes_drop 12 bytes are)) in
    number_fields (little_endian (drop 12 bytes)) (little_endian (take 4 (drop 8 bytes))) (little_endian (take 8 bytes)) x (middle_below bytes are count) h
    ∙ rw (first, middle, last, ← drop-drop 4 8 bytes, take-append-drop 4 (drop 8 bytes)) (take-append-drop 8 bytes)
