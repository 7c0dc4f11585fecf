-- The binary64 code of document 01 is that of IEEE 754, as the toolchain has it (Float.Ieee of std): each word has the same sign and value in both, the words
-- that are no number are the infinities and the nan, and what is read of a word is its value, at each word but these and negative zero.
use mathlib.Core.Path.{◌≡◌, refl, sym, ap, ap₂, ◌∙◌}
use mathlib.Core.Bool.{Bool, true, false, not, ◌&&◌, cond, false≢true}
use mathlib.Core.List.{List}
use Prim.Native.Nat.{ℕ, zero, suc, ◌+◌, ◌-◌, ◌*◌, ◌/◌, ◌%◌, ◌^◌, ◌≤◌, ◌<◌}
use native.Mathlib.Nat.{add_comm, add-zero, eq_of_mul-eq-mul_right, mul_assoc, mul-pos}
use native.Mathlib.Omega.{arith}
use borrow.Author.Tests.{le-leb, lt-leb, lt-ltb, ne_eqb, not-true}
use lib.Dec.{leb, ltb, eqb}
use lib.Ieee as ieee
use lib.Ieee.{Float, nan, inf, fin, up, down, minus, of_bits, of_fields, odd}
use lib.Ieee.Exact.{HasValue, odd_sign}
use lib.Ieee.Fits.{up_pos, down_pos}
use lib.Ieee.Scale.{finite}
use lib.IntN.{ℤ}
use lib.ListN.{length}
use lib.Pow.{pow_pos}
use Rattle.little_endian.specs.Bytes.{little_endian}
use Rattle.numbers.specs.Biased.{bias}
use Rattle.numbers.specs.Answer.{given}
use Rattle.numbers.specs.Fraction.{Equal, value}
use Rattle.numbers.specs.declared.number.Number.{Number}
use Rattle.numbers.specs.declared.number.Number.TheVariants.{Finite}
use Rattle.numbers.proofs.Laws.Scaled.{value_fraction, origin_is, finite_scaled, coarser, equal_scaled}
use Rattle.numbers.proofs.Laws.Pairs.{equal_through}
use Rattle.numbers.proofs.Laws.Fractions.{signed_equal}
use Rattle.numbers.proofs.Laws.Minus.{minus_same}
use Rattle.numbers.proofs.Laws.Tests.{leb_same, eqb_same}
use Rattle.codes.specs.Codes.{binary64, exponent_bits, all_ones, leading_one, split, counted, decoded, normalized, is_canonical, judged_code, number_of, reading_of}
use Rattle.codes.specs.Layout.{ieee_fraction}
use Rattle.codes.specs.Formats.{binary64_format}
use Rattle.codes.specs.declared.code.Code.{Code}
use Rattle.codes.proofs.Laws.Codes.{given_parts, read_value}
use Rattle.codes.proofs.Laws.Parts.{canonical_parts, parts_canonical}

-- ---- both have the same fields

-- the code of a sign, a field and the stored bits
abbrev coded : Bool → ℕ → ℕ → Code
coded s field r = record { negative = s; field = field; significand = r + leading_one binary64 field }

-- a word is taken apart at the same bits
same_fields : (w : ℕ) → split binary64 w ≡ coded (leb (ieee.top ieee.binary64) w) (w % ieee.top ieee.binary64 / ieee.hid ieee.binary64) (w % ieee.hid ieee.binary64)
unfolding split binary64 exponent_bits
same_fields w =
    let sign : ltb 0 (w / 2 ^ 52 / 2 ^ 11) ≡ leb (2 ^ 63) w = leb_same 1 (w / 2 ^ 52 / 2 ^ 11) (2 ^ 63) w (λ (l : 1 ≤ w / 2 ^ 52 / 2 ^ 11). omega arith) (λ (l : 2 ^ 63 ≤ w). omega arith) in
    let field : w / 2 ^ 52 % 2 ^ 11 ≡ w % 2 ^ 63 / 2 ^ 52 = omega arith in
    ap₂ (λ (s : Bool) (n : ℕ). coded s n (w % 2 ^ 52)) sign field

-- ---- a field of all ones is that of an infinity or of the nan, and any other is that of a number

-- what has a sign and a significand is finite
odd_finite : (d : ℕ) (s : Bool) (q k l : ℕ) → finite (odd d s q k l) ≡ true
unfolding odd
odd_finite d s zero k l = refl
odd_finite d s (suc q) k l = refl

-- of the fields, the highest alone is no number
fields_finite : (s : Bool) (field r : ℕ) → finite (of_fields ieee.binary64 s field r) ≡ not (eqb field (all_ones binary64))
unfolding of_fields all_ones exponent_bits binary64
fields_finite s zero r = odd_finite 53 s r 0 1074
fields_finite s (suc k) r = go (eqb (suc k) 2047) (eqb r 0)
  where
    go : (a z : Bool) → finite (cond a (cond z (inf s) nan) (odd 53 s (2 ^ 52 + r) k 1074)) ≡ not a
    go true true = refl
    go true false = refl
    go false z = odd_finite 53 s (2 ^ 52 + r) k 1074

-- ---- any other field has the same sign and value in both

-- m × 2^e is S × 2^k / 2^(1023 + 51), which is the value of S in a word at the exponent k + 1 - 1023
scaled : (s : Bool) (S m k : ℕ) (e : ℤ) → m * up e * 2 ^ (1023 + 51) ≡ S * 2 ^ k * down e
    → Equal (value (Finite s (minus (suc k) 1023) (S * 2 ^ 11))) (ieee_fraction s m e)
unfolding ieee_fraction
scaled s S m k e h =
    let b = suc k + (bias - 1023) in
    let word = finite_scaled s b (S * 2 ^ 11) (minus_same (suc k) 1023 b bias (omega arith)) in
    equal_scaled (coarser {j = k} {p = 1023 + 51} S 11 word (omega (arith, origin_is)))
    (record { positive = down_pos e; amount = signed_equal s (m * up e) (down e) (S * 2 ^ k) (2 ^ (1023 + 51)) h })

-- the code c is a number, it has the sign s, it is zero where m is, and its value is m × 2^e with that sign
pub record IsIeee (c : Code) (s : Bool) (m : ℕ) (e : ℤ) : Type 0 where
  pub number : eqb c.field (all_ones binary64) ≡ false
  pub sign : c.negative ≡ s
  pub zero : eqb c.significand 0 ≡ eqb m 0
  pub equal : Equal (value (decoded binary64 c)) (ieee_fraction s m e)

-- two products that are the same, each with a factor above 0: the other factors are 0 together
zero_together : (a b c d : ℕ) → 0 < b → 0 < d → a * b ≡ c * d → eqb c 0 ≡ eqb a 0
zero_together a b c d b0 d0 h = eqb_same c 0 a 0 (none a b c d b0 h) (none c d a b d0 (sym h))
  where
    none : (a b c d : ℕ) → 0 < b → a * b ≡ c * d → c ≡ 0 → a ≡ 0
    none a b c d b0 h z = eq_of_mul-eq-mul_right b b0 a 0 (omega (arith, h, ap (λ (n : ℕ). n * d) z))

-- so is a code of the significand S where m × 2^e is S × 2^k / 2^1074, k + 1 being the field that counts
units_ieee : (c : Code) (k : ℕ) (s : Bool) (m : ℕ) (e : ℤ) → eqb c.field (all_ones binary64) ≡ false → counted c.field ≡ suc k
    → HasValue (fin s m e) c.negative (c.significand * 2 ^ k) (2 ^ (1023 + 51)) → IsIeee c s m e
unfolding decoded binary64
units_ieee c k s m e number counted (sign, units) =
    let S = c.significand in
    let grouped : m * (up e * 2 ^ (1023 + 51)) ≡ S * (2 ^ k * down e) = sym (mul_assoc m (up e) (2 ^ (1023 + 51))) ∙ units ∙ mul_assoc S (2 ^ k) (down e) in
    record {
      number = number;
      sign = sym sign;
      zero = zero_together m (up e * 2 ^ (1023 + 51)) S (2 ^ k * down e) (mul-pos (up_pos e) (pow_pos (1023 + 51))) (mul-pos (pow_pos k) (down_pos e)) grouped;
      equal = rw (counted, ← sign) (scaled s S m k e units);
    }

-- field 0 counts as field 1 without the leading one
fields_ieee : (s : Bool) (field r : ℕ) (t : Bool) (m : ℕ) (e : ℤ) → of_fields ieee.binary64 s field r ≡ fin t m e → IsIeee (coded s field r) t m e
unfolding of_fields leading_one binary64 all_ones exponent_bits
fields_ieee s zero r t m e h = units_ieee (coded s 0 r) 0 t m e refl refl (rw (add-zero r) (rw h at (odd_sign 53 s r 0 1074)))
fields_ieee s (suc k) r t m e h =
    let other : eqb (suc k) 2047 ≡ false = not-true (eqb (suc k) 2047) (sym (fields_finite s (suc k) r) ∙ ap finite h) in
    let is : odd 53 s (2 ^ 52 + r) k 1074 ≡ fin t m e = sym (ap (λ (a : Bool). cond a (cond (eqb r 0) (inf s) nan) (odd 53 s (2 ^ 52 + r) k 1074)) other) ∙ h in
    units_ieee (coded s (suc k) r) k t m e other (rw (ne_eqb (suc k) 0 (λ (z : suc k ≡ 0). omega arith))) (rw (lt-ltb 0 (suc k) (omega arith), add_comm r (2 ^ 52)) (rw is at (odd_sign 53 s (2 ^ 52 + r) k 1074)))

-- ---- words

-- a word is finite, so no infinity and not the nan, exactly where the field is not all ones
pub ieee_no_number : (w : ℕ) → finite (of_bits ieee.binary64 w) ≡ not (eqb (split binary64 w).field (all_ones binary64))
unfolding of_bits
ieee_no_number w = rw (same_fields w) (fields_finite (leb (2 ^ 63) w) (w % 2 ^ 63 / 2 ^ 52) (w % 2 ^ 52))

-- a finite word has its sign and its value
pub ieee_value : (w : ℕ) (s : Bool) (m : ℕ) (e : ℤ) → of_bits ieee.binary64 w ≡ fin s m e → IsIeee (split binary64 w) s m e
unfolding of_bits
ieee_value w s m e h = rw (same_fields w) (fields_ieee (leb (2 ^ 63) w) (w % 2 ^ 63 / 2 ^ 52) (w % 2 ^ 52) s m e h)

-- ---- reading

-- what is finite has a sign, an m and an e
finite_parts : (x : Float) → finite x ≡ true → (s : Bool) × (m : ℕ) × (e : ℤ) × (x ≡ fin s m e)
finite_parts nan h = absurd (false≢true h)
finite_parts (inf s) h = absurd (false≢true h)
finite_parts (fin s m e) h = (s, m, e, refl)

-- what is read of a finite word has its value
read_equal : (bytes : List ℕ) (x : Number) (s : Bool) (m : ℕ) (e : ℤ) → reading_of binary64 bytes ≡ given x → of_bits ieee.binary64 (little_endian bytes) ≡ fin s m e → Equal (value x) (ieee_fraction s m e)
unfolding ieee_fraction
read_equal bytes x s m e h is =
    let code = decoded binary64 (split binary64 (little_endian bytes)) in
    equal_through (value x) (value code) (ieee_fraction s m e) (value_fraction code)
    (read_value binary64 bytes x binary64_format h) (ieee_value (little_endian bytes) s m e is).equal

-- where something is read, the word is finite and no negative zero, and what is read has its value
pub read_ieee : (bytes : List ℕ) (x : Number) → reading_of binary64 bytes ≡ given x
    → (s : Bool) × (m : ℕ) × (e : ℤ) × (of_bits ieee.binary64 (little_endian bytes) ≡ fin s m e) × (not (s && eqb m 0) ≡ true) × Equal (value x) (ieee_fraction s m e)
read_ieee bytes x h =
    let w = little_endian bytes in
    let c = split binary64 w in
    let r = given_parts binary64 bytes x binary64_format h in
    let f = finite_parts (of_bits ieee.binary64 w) (ieee_no_number w ∙ ap not (ne_eqb c.field (all_ones binary64) (λ (z : c.field ≡ all_ones binary64). omega (arith, r.placed.number)))) in
    let i = ieee_value w f.0 f.1 f.2 f.3 in
    let sign = sym (ap₂ (λ (a b : Bool). not (a && b)) i.sign i.zero) ∙ (canonical_parts binary64 c r.canonical).1 in
    (f.0, f.1, f.2, f.3, sign, read_equal bytes x f.0 f.1 f.2 h f.3)

-- the top bit of a word's significand is set exactly where the field is above 0
split_top : (w : ℕ) → leb (2 ^ (binary64.precision - 1)) (split binary64 w).significand ≡ ltb 0 (split binary64 w).field
unfolding split leading_one binary64
split_top w = go (w / 2 ^ 52 % 2 ^ exponent_bits binary64)
  where
    go : (field : ℕ) → leb (2 ^ 52) (w % 2 ^ 52 + cond (ltb 0 field) (2 ^ 52) 0) ≡ ltb 0 field
    go zero = lt-leb (2 ^ 52) (w % 2 ^ 52 + 0) (omega arith)
    go (suc k) = rw (lt-ltb 0 (suc k) (omega arith)) (le-leb (2 ^ 52) (w % 2 ^ 52 + 2 ^ 52) (omega arith))

-- a word that is finite and no negative zero is read, with its value
pub ieee_read : (bytes : List ℕ) (s : Bool) (m : ℕ) (e : ℤ) → length bytes ≡ 8 → of_bits ieee.binary64 (little_endian bytes) ≡ fin s m e → not (s && eqb m 0) ≡ true
    → (x : Number) × (reading_of binary64 bytes ≡ given x) × Equal (value x) (ieee_fraction s m e)
unfolding reading_of number_of judged_code binary64
ieee_read bytes s m e long is sign =
    let c = split binary64 (little_endian bytes) in
    let i = ieee_value (little_endian bytes) s m e is in
    let x = normalized (decoded binary64 c) in
    let canonical : is_canonical binary64 c ≡ true = parts_canonical binary64 c (split_top (little_endian bytes)) (ap₂ (λ (a b : Bool). not (a && b)) i.sign i.zero ∙ sign) in
    let h : reading_of binary64 bytes ≡ given x = rw (long, i.number, canonical) in
    (x, h, read_equal bytes x s m e h is)
