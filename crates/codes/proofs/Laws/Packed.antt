-- The code that a number is cut to has its parts in their places, and the code that a working number is written as equals it.
use mathlib.Core.Path.{◌≡◌, refl, sym, ap, ◌∙◌}
use mathlib.Core.Bool.{Bool, true, false, ◌&&◌, cond, and-false}
use mathlib.Core.Option.{none, some}
use Prim.Native.Nat.{ℕ, zero, suc, ◌+◌, ◌-◌, ◌*◌, ◌/◌, ◌%◌, ◌^◌, ◌≤◌, ◌<◌}
use native.Mathlib.Nat.{div-add-mod', div-lt_iff_lt-mul, le-div_iff_mul-le, lt_of_lt_of_le, zero-add}
use native.Mathlib.Omega.{arith}
use borrow.Author.Tests.{leb-true, le-leb, lt-leb, eqb-true, eqb-false, ne_eqb}
use lib.Arith.{lt_of_le-ne}
use lib.Dec.{leb, ltb, eqb}
use lib.IntN.{ℤ, pos}
use lib.Pow.{pow-add, pow_pos, pow_mono, le_ones}
use lib.Signed.{le_z}
use Rattle.numbers.specs.Biased.{bias}
use Rattle.numbers.specs.Fraction.{Equal, signed, value, is_equal}
use Rattle.numbers.specs.Number.{is_working}
use Rattle.numbers.specs.declared.number.Number.{Number}
use Rattle.numbers.specs.declared.number.Number.TheVariants.{Zero, Finite}
use Rattle.numbers.proofs.Laws.Bias.{biased_working}
use Rattle.numbers.proofs.Laws.Fractions.{equal_test}
use Rattle.numbers.proofs.Laws.Powers.{word_parts}
use Rattle.numbers.proofs.Laws.Working.{IsWorkingFinite, working_parts}
use Rattle.numbers.proofs.Laws.Tests.{never, leb_same}
use Rattle.codes.specs.Codes.{exponent_bits, all_ones, decoded, is_canonical, below_normal, encoded, zero_code, equal_code}
use Rattle.codes.specs.Layout.{IsFormat, IsCode}
use Rattle.codes.specs.declared.code.Code.{Code}
use Rattle.codes.specs.declared.code.Format.{Format}
use Rattle.codes.proofs.Laws.Decoded.{encoded_equal}
use Rattle.codes.proofs.Laws.Parts.{canonical_parts, parts_canonical, all_ones_are}
use Rattle.codes.proofs.Laws.Places.{field_is, below_is, not_above}

-- ---- the code that a number is cut to

-- The field is below that of all ones, and the significand has room, with its top bit set exactly where the field is above 0.
pub record IsPlaced (f : Format) (c : Code) : Type 0 where
  pub number : c.field < all_ones f
  pub room : c.significand < 2 ^ f.precision
  pub top_bit : leb (2 ^ (f.precision - 1)) c.significand ≡ ltb 0 c.field

-- the bits that are left of a word S with those that a format of p bits has no room for cut off, and k more, have room in q bits
cut_below : (p q S k : ℕ) → 64 ≤ q + (k + (64 - p)) → S < 2 ^ 64 → S / 2 ^ (k + (64 - p)) < 2 ^ q
cut_below p q S k room h = (div-lt_iff_lt-mul (pow_pos (k + (64 - p)))).1 (rw (← pow-add 2 q (k + (64 - p))) (lt_of_lt_of_le h (pow_mono room)))

-- the top bit is left where no more are cut off
cut_top_bit : (f : Format) (S k : ℕ) → IsFormat f → 2 ^ 63 ≤ S → S < 2 ^ 64 → leb (2 ^ (f.precision - 1)) (S / 2 ^ (k + (64 - f.precision))) ≡ leb k 0
cut_top_bit f S zero formed low high =
    let reaches = rw (← word_parts f.precision formed.some_bits formed.word_bits) at low in
    le-leb (2 ^ (f.precision - 1)) (S / 2 ^ (0 + (64 - f.precision)))
    (rw (zero-add (64 - f.precision)) ((le-div_iff_mul-le (pow_pos (64 - f.precision))).1 reaches))
cut_top_bit f S (suc k) formed low high =
    lt-leb _ _ (cut_below f.precision (f.precision - 1) S (suc k) (omega (arith, formed.some_bits, formed.word_bits)) high)
    ∙ sym (lt-leb (suc k) 0 (omega arith))

-- so a number whose exponent is not above the highest one is cut to a code of this kind
pub encoded_placed : (f : Format) (s : Bool) (e : ℤ) (S : ℕ) → IsFormat f → IsWorkingFinite e S → le_z e f.highest ≡ true → IsPlaced f (encoded f s e S)
unfolding encoded
encoded_placed f s e S formed fit high =
    let w = biased_working e fit.exponent in
    let b = w.0 in
    let k = 65536 - (b + f.bias) in
    let most = leb-true b (f.bias + bias) (sym (not_above f b formed) ∙ rw w.3 at high) in
    rw (w.3, field_is f b formed, below_is f b formed) (record {
      number = omega (arith, all_ones_are f formed);
      room = cut_below f.precision f.precision S k (omega (arith, formed.word_bits)) fit.word;
      top_bit =
          cut_top_bit f S k formed fit.top fit.word
          ∙ leb_same k 0 1 (b + f.bias - bias) (λ (l : k ≤ 0). omega arith) (λ (l : 1 ≤ b + f.bias - bias). omega arith);
    })

-- such a code has room in the format, and a canonical code that is a number is such a code
pub placed_code : (f : Format) (c : Code) → IsPlaced f c → IsCode f c
unfolding all_ones
placed_code f c placed = record { field_fits = omega (arith, placed.number); significand_fits = placed.room }

pub code_placed : (f : Format) (c : Code) → IsCode f c → eqb c.field (all_ones f) ≡ false → is_canonical f c ≡ true → IsPlaced f c
unfolding all_ones
code_placed f c fits number canonical = record {
  number = lt_of_le-ne (le_ones (exponent_bits f) fits.field_fits) (eqb-false c.field (2 ^ exponent_bits f - 1) number);
  room = fits.significand_fits;
  top_bit = (canonical_parts f c canonical).0;
}

-- ---- the code that equals a number

-- a code of this kind that is canonical and has the value of x
pub record IsEqualCode (f : Format) (x : Number) (c : Code) : Type 0 where
  pub placed : IsPlaced f c
  pub canonical : is_canonical f c ≡ true
  pub equal : Equal (value (decoded f c)) (value x)

-- the code of zero, and that of another number
zero_code_is : (f : Format) → IsFormat f → IsEqualCode f Zero (zero_code)
unfolding Equal value decoded signed
zero_code_is f formed = record {
  placed = record { number = omega (arith, all_ones_are f formed); room = pow_pos f.precision; top_bit = top };
  canonical = parts_canonical f (zero_code) top refl;
  equal = ap pos (omega arith);
}
  where
    top : leb (2 ^ (f.precision - 1)) 0 ≡ false
    top = lt-leb (2 ^ (f.precision - 1)) 0 (pow_pos (f.precision - 1))

finite_code : (f : Format) (s : Bool) (e : ℤ) (S : ℕ) (c : Code) → IsFormat f → IsWorkingFinite e S → equal_code f (Finite s e S) ≡ some c → IsEqualCode f (Finite s e S) c
unfolding equal_code encoded
finite_code f s e S c formed fit h = go (le_z e f.highest) (is_equal (value (decoded f (encoded f s e S))) (value (Finite s e S))) refl refl h
  where
    k : ℕ
    k = below_normal f e + (64 - f.precision)

    some_bits : is_equal (value (decoded f (encoded f s e S))) (value (Finite s e S)) ≡ true → S / 2 ^ k ≡ 0 → ⊥
    some_bits q z =
        omega (
          arith,
          fit.top,
          div-add-mod' S (2 ^ k),
          eqb-true (S % 2 ^ k) 0 (sym (encoded_equal f s e S formed fit.exponent) ∙ q),
          ap (λ (n : ℕ). n * 2 ^ k) z,
        )

    go : (a b : Bool) → le_z e f.highest ≡ a → is_equal (value (decoded f (encoded f s e S))) (value (Finite s e S)) ≡ b → cond (a && b) (some (encoded f s e S)) none ≡ some c
        → IsEqualCode f (Finite s e S) c
    go true true p q m = let same : encoded f s e S ≡ c = cc in rw (← same) (record {
      placed = encoded_placed f s e S formed fit p;
      canonical = parts_canonical f (encoded f s e S) (encoded_placed f s e S formed fit p).top_bit (rw (ne_eqb (S / 2 ^ k) 0 (some_bits q), and-false s));
      equal = equal_test (value (decoded f (encoded f s e S))) (value (Finite s e S)) q;
    })
    go true false p q m = never cc
    go false b p q m = never cc

-- the code that a working number is written as equals it, and has room in the format
pub equal_code_is : (f : Format) (x : Number) (c : Code) → IsFormat f → is_working x ≡ true → equal_code f x ≡ some c → IsEqualCode f x c
unfolding equal_code
equal_code_is f Zero c formed working h = let same : (zero_code) ≡ c = cc in rw (← same) (zero_code_is f formed)
equal_code_is f (Finite s e S) c formed working h = finite_code f s e S c formed (working_parts (Finite s e S) s e S working refl) h
