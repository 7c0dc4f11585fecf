-- Reading and writing codes: what is read is fit and has the code's value, and each undoes the other. For any format; Formats of specs/ shows that both are one.
use mathlib.Core.Path.{◌≡◌, refl, sym, ap, ◌∙◌}
use mathlib.Core.Bool.{Bool, true, false, not, ◌&&◌, cond, false≢true}
use mathlib.Core.List.{List}
use mathlib.Core.Logic.{◌↔◌}
use mathlib.Core.Option.{Option, none, some}
use Prim.Native.Nat.{ℕ, zero, suc, ◌+◌, ◌-◌, ◌*◌, ◌%◌, ◌^◌, ◌≤◌, ◌<◌}
use native.Mathlib.Nat.{lt_of_le_of_lt, mul-div_cancel, mul-mod_left, mul-le-mul_right, mul-lt-mul_of_pos_right, mul-pos, zero-mul}
use native.Mathlib.Omega.{arith}
use borrow.Author.Tests.{le-leb, lt-ltb, leb-true, leb-false, ne_eqb, eqb-true, eq-eqb}
use lib.Dec.{leb, ltb, eqb}
use lib.Ieee.{minus}
use lib.IntN.{ℤ}
use lib.ListN.{length}
use lib.Pow.{pow-add, pow_pos}
use Rattle.little_endian.specs.Bytes.{little_endian, bytes_of, IsBytes}
use Rattle.little_endian.proofs.Laws.Bytes.{little_endian_below, little_endian_bytes, bytes_little_endian, bytes_length, bytes_are}
use Rattle.numbers.specs.Biased.{bias}
use Rattle.numbers.specs.Answer.{given, refused}
use Rattle.numbers.specs.Fraction.{Equal, value}
use Rattle.numbers.specs.Number.{is_working_exponent, is_significand, is_fit, is_working, is_admissible}
use Rattle.numbers.specs.declared.number.Number.{Number}
use Rattle.numbers.specs.declared.number.Number.TheVariants.{Zero, Finite}
use Rattle.numbers.proofs.Laws.Minus.{minus_same}
use Rattle.numbers.proofs.Laws.Bias.{working, admissible}
use Rattle.numbers.proofs.Laws.Pairs.{equal_back}
use Rattle.numbers.proofs.Laws.Powers.{top_bit, pow_below, word_parts, word_power}
use Rattle.numbers.proofs.Laws.Same.{round_equal, round_working, same_number}
use Rattle.numbers.proofs.Laws.Words.{raised}
use Rattle.numbers.proofs.Laws.Tests.{never}
use Rattle.codes.specs.Codes.{all_ones, split, join, counted, decoded, normalized, is_canonical, judged_code, number_of, reading_of, field_of, below_normal, encoded, equal_code, Lent, unwritten, packed, writing_of}
use Rattle.codes.specs.Layout.{IsFormat, HasEqualCode}
use Rattle.codes.specs.declared.code.Code.{Code}
use Rattle.codes.specs.declared.code.Format.{Format}
use Rattle.codes.proofs.Laws.Decoded.{normalized_shift, normalized_zero, encoded_equal}
use Rattle.codes.proofs.Laws.Packed.{IsPlaced, placed_code, code_placed, equal_code_is}
use Rattle.codes.proofs.Laws.Parts.{split_code, join_below, join_split, split_join, canonical_parts, all_ones_are, judged_given}
use Rattle.codes.proofs.Laws.Places.{counted_is, field_is, below_is, not_above}

-- a code by its parts
abbrev code : Bool → ℕ → ℕ → Code
code s field S = record { negative = s; field = field; significand = S }

-- ---- a code that is decoded comes back

-- the number is working, in a format no wider than double-extended even admissible, and the code that equals it is the same
pub record ComesBack (f : Format) (c : Code) : Type 0 where
  pub working_number : is_working (normalized (decoded f c)) ≡ true
  pub admissible_number : f.bias ≤ 16383 → is_admissible (normalized (decoded f c)) ≡ true
  pub same_code : equal_code f (normalized (decoded f c)) ≡ some c

-- The number's exponent is z below that of the code, b - 65,535, as its significand is shifted left by z: not at all where the field is above 0.
module _ (f : Format) (s : Bool) (field S z : ℕ) (formed : IsFormat f) (number : field < all_ones f) (some : 1 ≤ field + z) (few : z ≤ 63 * (1 - field)) where
  abbrev b : ℕ
  b = field + (1 - field) + (bias - f.bias)

  abbrev e : ℤ
  e = minus (b - z) bias

  abbrev T : ℕ
  T = S * 2 ^ (64 - f.precision) * 2 ^ z

  shifted : 2 ^ 63 ≤ T → T < 2 ^ 64 → ComesBack f (code s field S)
  unfolding decoded encoded is_fit is_significand equal_code
  shifted low high =
      let t = 64 - f.precision in
      let small = formed.small_bias in
      let ones = all_ones_are f formed in
      let at : field_of f e ≡ field = field_is f (b - z) formed ∙ omega arith in
      let below : below_normal f e ≡ z = below_is f (b - z) formed ∙ omega arith in
      let whole : T ≡ S * 2 ^ (z + t) = omega (arith, ap (λ (n : ℕ). S * n) (pow-add 2 z t)) in
      let fit : is_working_exponent e ≡ true = working (b - z) bias (omega arith) (omega arith) in
      let place : minus (counted field) f.bias ≡ minus b bias = minus_same (counted field) f.bias b bias (omega (arith, counted_is field)) in
      let normal : normalized (decoded f (code s field S)) ≡ Finite s e T = rw place (normalized_shift s b (S * 2 ^ t) z (omega arith) low high) in
      let top : is_significand T ≡ true = rw (le-leb (2 ^ 63) T low, lt-ltb T (2 ^ 64) high) in
      let back : T % 2 ^ (below_normal f e + t) ≡ 0 = rw (below, whole) (mul-mod_left S (2 ^ (z + t))) in
      record {
        working_number = rw (normal, fit, top);
        admissible_number = λ (l : f.bias ≤ 16383). rw (normal, admissible (b - z) bias (omega arith) (omega arith), top);
        same_code = rw (
          normal,
          not_above f (b - z) formed ∙ le-leb (b - z) (f.bias + bias) (omega arith),
          encoded_equal f s e T formed fit ∙ eq-eqb (T % 2 ^ (below_normal f e + t)) 0 back,
          at,
          below,
          whole,
          mul-div_cancel S (pow_pos (z + t)),
        );
      }

-- field 1 and above: the top bit is in its place
normal : (f : Format) (s : Bool) (m S : ℕ) → IsFormat f → suc m < all_ones f → 2 ^ (f.precision - 1) ≤ S → S < 2 ^ f.precision → ComesBack f (code s (suc m) S)
normal f s m S formed room low high =
    shifted f s (suc m) S 0 formed room (omega arith) (omega arith)
    (omega (arith, word_parts f.precision formed.some_bits formed.word_bits, mul-le-mul_right (2 ^ (64 - f.precision)) low))
    (omega (arith, word_power f.precision formed.word_bits, mul-lt-mul_of_pos_right {k = 2 ^ (64 - f.precision)} high (pow_pos (64 - f.precision))))

-- field 0: the top bit comes to its place from below
below : (f : Format) (s : Bool) (S : ℕ) → IsFormat f → 0 < S → S < 2 ^ (f.precision - 1) → ComesBack f (code s 0 S)
below f s S formed S0 high =
    let F = S * 2 ^ (64 - f.precision) in
    let short : F < 2 ^ 63 = rw (← word_parts f.precision formed.some_bits formed.word_bits) (mul-lt-mul_of_pos_right {k = 2 ^ (64 - f.precision)} high (pow_pos (64 - f.precision))) in
    let top = top_bit F (mul-pos S0 (pow_pos (64 - f.precision))) in
    let j = top.0 in
    let l : j < 63 = pow_below j 63 (lt_of_le_of_lt top.1 short) in
    let up = raised 63 j (63 - j) F (omega arith) top.1 top.2 in
    shifted f s 0 S (63 - j) formed (omega (arith, all_ones_are f formed)) (omega arith) (omega arith) up.1 up.2

-- field 0 with no bit, which is zero where the sign is not set
nothing : (f : Format) (s : Bool) → not (s && true) ≡ true → ComesBack f (code s 0 0)
unfolding decoded is_fit equal_code
nothing f true h = absurd (false≢true h)
nothing f false h =
    let number : normalized (decoded f (code false 0 0)) ≡ Zero = rw (zero-mul (2 ^ (64 - f.precision))) (normalized_zero false (minus 1 f.bias)) in
    record { working_number = rw number; admissible_number = λ (l : f.bias ≤ 16383). rw number; same_code = rw number }

-- every canonical code that is a number comes back
pub encoded_decoded : (f : Format) (c : Code) → IsFormat f → IsPlaced f c → is_canonical f c ≡ true → ComesBack f c
encoded_decoded f c formed placed canonical = go c.negative c.field c.significand placed.number placed.room (canonical_parts f c canonical).0 (canonical_parts f c canonical).1
  where
    go : (s : Bool) (field S : ℕ) → field < all_ones f → S < 2 ^ f.precision → leb (2 ^ (f.precision - 1)) S ≡ ltb 0 field → not (s && eqb S 0) ≡ true → ComesBack f (code s field S)
    go s (suc m) S number room top sign = normal f s m S formed number (leb-true (2 ^ (f.precision - 1)) S (top ∙ lt-ltb 0 (suc m) (omega arith))) room
    go s zero zero number room top sign = nothing f s sign
    go s zero (suc S) number room top sign = below f s (suc S) formed (omega arith) (leb-false (2 ^ (f.precision - 1)) (suc S) top)

-- ---- reading

-- the parts of a reading that gives x
pub record IsReading (f : Format) (bytes : List ℕ) (x : Number) : Type 0 where
  pub long : length bytes ≡ f.length
  pub placed : IsPlaced f (split f (little_endian bytes))
  pub canonical : is_canonical f (split f (little_endian bytes)) ≡ true
  pub number : normalized (decoded f (split f (little_endian bytes))) ≡ x

module _ (f : Format) (bytes : List ℕ) (x : Number) (formed : IsFormat f) (h : reading_of f bytes ≡ given x) where
  abbrev c : Code
  c = split f (little_endian bytes)

  pub given_parts : IsReading f bytes x
  unfolding reading_of number_of
  given_parts = go (eqb (length bytes) f.length) refl h
    where
      go : (l : Bool) → eqb (length bytes) f.length ≡ l → cond (not l) (refused 9) (judged_code f c (normalized (decoded f c))) ≡ given x
          → IsReading f bytes x
      go true l m =
          let judged = judged_given f c x (normalized (decoded f c)) m in
          record {
            long = eqb-true (length bytes) f.length l;
            placed = code_placed f c (split_code f (little_endian bytes) formed) judged.0 judged.1;
            canonical = judged.1;
            number = judged.2;
          }
      go false l m = never cc

  -- so does the code of a number that was read
  comes_back : ComesBack f c
  comes_back = encoded_decoded f c formed given_parts.placed given_parts.canonical

  -- what is read is fit
  pub read_working : is_working x ≡ true
  read_working = rw (← given_parts.number) comes_back.working_number

  -- the code that equals it is the one that was read
  equal_read : equal_code f x ≡ some c
  equal_read = rw (← given_parts.number) comes_back.same_code

  -- and has the code's value
  pub read_value : Equal (value x) (value (decoded f (split f (little_endian bytes))))
  read_value = equal_back (value (decoded f c)) (value x) (equal_code_is f x c formed read_working equal_read).equal

-- what is read may be divided
pub read_admissible : (f : Format) (bytes : List ℕ) (x : Number) → IsFormat f → f.bias ≤ 16383 → reading_of f bytes ≡ given x → is_admissible x ≡ true
read_admissible f bytes x formed low h = rw (← (given_parts f bytes x formed h).number) ((comes_back f bytes x formed h).admissible_number low)

-- what is read is written as it was
pub write_read : (f : Format) (bytes old : List ℕ) (x : Number) → IsFormat f → IsBytes bytes → length old ≡ f.length → reading_of f bytes ≡ given x → writing_of f x old ≡ record { refusal = none; bytes = bytes }
unfolding writing_of packed
write_read f bytes old x formed are long h =
    let r = given_parts f bytes x formed h in
    let below : little_endian bytes < 256 ^ f.length = rw (← r.long) (little_endian_below bytes are) in
    rw (
      read_working f bytes x formed h,
      eq-eqb (length old) f.length long,
      equal_read f bytes x formed h,
      join_split f (little_endian bytes) formed below,
      ← r.long,
      bytes_little_endian bytes are,
    )

-- no number has two codes
pub one_code : (f : Format) (bytes other : List ℕ) (x : Number) → IsFormat f → IsBytes bytes → IsBytes other → reading_of f bytes ≡ given x → reading_of f other ≡ given x → bytes ≡ other
one_code f bytes other x formed are too h k =
    let long = (given_parts f bytes x formed h).long in
    ap (λ (l : Lent). l.bytes) (sym (write_read f bytes bytes x formed are long h) ∙ write_read f other bytes x formed too long k)

-- ---- writing

-- the parts of a writing of x that is not refused
record IsWriting (f : Format) (x : Number) (c : Code) (left : Lent) : Type 0 where
  pub fit : is_working x ≡ true
  pub equal : equal_code f x ≡ some c
  pub written : left.bytes ≡ bytes_of f.length (join f c)

written_parts : (f : Format) (x : Number) (old : List ℕ) → (writing_of f x old).refusal ≡ none → (c : Code) × IsWriting f x c (writing_of f x old)
unfolding writing_of packed unwritten
written_parts f x old h = go (is_working x) (eqb (length old) f.length) (equal_code f x) refl refl h
  where
    go : (w l : Bool) (o : Option Code) → is_working x ≡ w → equal_code f x ≡ o → (cond (not w) (unwritten 3 old) (cond (not l) (unwritten 9 old) (packed f old o))).refusal ≡ none
        → (c : Code) × IsWriting f x c (cond (not w) (unwritten 3 old) (cond (not l) (unwritten 9 old) (packed f old o)))
    go true true (some c) w o m = (c, record { fit = w; equal = o; written = refl })
    go true true none w o m = never cc
    go true false k w o m = never cc
    go false l k w o m = never cc

-- the bytes of a canonical code that is a number are read as that number
read_code : (f : Format) (c : Code) → IsFormat f → IsPlaced f c → is_canonical f c ≡ true → reading_of f (bytes_of f.length (join f c)) ≡ given (normalized (decoded f c))
unfolding reading_of number_of judged_code
read_code f c formed placed canonical =
    let fits = placed_code f c placed in
    rw (
      bytes_length f.length (join f c),
      eq-eqb f.length f.length refl,
      little_endian_bytes f.length (join f c) (join_below f c formed fits),
      split_join f c formed fits canonical,
      ne_eqb c.field (all_ones f) (λ (z : c.field ≡ all_ones f). omega (arith, placed.number)),
      canonical,
    )

-- what is written is read as it was
pub read_written : (f : Format) (x : Number) (old : List ℕ) → IsFormat f → (writing_of f x old).refusal ≡ none → reading_of f (writing_of f x old).bytes ≡ given x
read_written f x old formed h =
    let w = written_parts f x old h in
    let e = equal_code_is f x w.0 formed w.1.fit w.1.equal in
    ap (reading_of f) w.1.written
    ∙ read_code f w.0 formed e.placed e.canonical
    ∙ ap given (round_equal (decoded f w.0) x e.equal ∙ round_working x w.1.fit)

-- a number is written exactly where some code equals it
pub written_equal : (f : Format) (x : Number) (old : List ℕ) → IsFormat f → is_working x ≡ true → length old ≡ f.length → ((writing_of f x old).refusal ≡ none) ↔ HasEqualCode f x
unfolding HasEqualCode Equal
written_equal f x old formed fit long = (there, back)
  where
    there : (writing_of f x old).refusal ≡ none → HasEqualCode f x
    there h = (
      (writing_of f x old).bytes,
      rw (written_parts f x old h).1.written (bytes_are f.length (join f (written_parts f x old h).0)),
      x,
      read_written f x old formed h,
      refl,
    )

    back : HasEqualCode f x → (writing_of f x old).refusal ≡ none
    back (bytes, are, y, h, equal) =
        let same : y ≡ x = same_number y x (read_working f bytes y formed h) fit equal in
        ap (λ (z : Number). (writing_of f z old).refusal) (sym same) ∙ ap (λ (l : Lent). l.refusal) (write_read f bytes old y formed are long h)
