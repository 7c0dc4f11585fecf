-- The parts of a code: taking apart and putting together undo each other, and what the judgement of a code says of its parts.
use mathlib.Core.Path.{◌≡◌, refl, sym, ap, ◌∙◌}
use mathlib.Core.Bool.{Bool, true, false, not, ◌&&◌, beq, cond, and-eq-true_iff}
use Prim.Native.Nat.{ℕ, zero, suc, ◌+◌, ◌-◌, ◌*◌, ◌/◌, ◌%◌, ◌^◌, ◌<◌}
use native.Mathlib.Nat.{div-add-mod', div-lt_iff_lt-mul, mod-lt}
use native.Mathlib.Omega.{arith}
use lib.Arith.{digits_lt, digits_div, digits_mod}
use lib.Dec.{leb, ltb, eqb}
use lib.Pow.{pow-add, pow_pos}
use Rattle.little_endian.proofs.Laws.Bytes.{byte_power}
use Rattle.numbers.specs.Answer.{given, refused}
use Rattle.numbers.specs.declared.number.Number.{Number}
use Rattle.numbers.proofs.Laws.Tests.{never}
use Rattle.codes.specs.Codes.{exponent_bits, all_ones, split, join, is_canonical, judged_code}
use Rattle.codes.specs.Layout.{IsFormat, IsCode}
use Rattle.codes.specs.declared.code.Code.{Code}
use Rattle.codes.specs.declared.code.Format.{Format}
use Rattle.codes.proofs.Laws.Leading.{leading_room, leading_back, upper_below}

-- a code has 1 bit of sign above the exponent's bits and the stored ones
all_bits : (f : Format) → IsFormat f → 256 ^ f.length ≡ 2 * 2 ^ exponent_bits f * 2 ^ f.stored
all_bits f formed =
    byte_power f.length
    ∙ ap (λ (n : ℕ). 2 ^ n) (let e : 8 * f.length ≡ 1 + exponent_bits f + f.stored = omega (arith, formed.layout) in e)
    ∙ pow-add 2 (1 + exponent_bits f) f.stored
    ∙ ap (λ (n : ℕ). n * 2 ^ f.stored) (pow-add 2 1 (exponent_bits f))

-- ---- taking apart and putting together

-- the sign bit
sign_back : (s : Bool) → ltb 0 (cond s 1 0) ≡ s
sign_back true = refl
sign_back false = refl

sign_bit_is : (n : ℕ) → n < 2 → cond (ltb 0 n) 1 0 ≡ n
sign_bit_is zero h = refl
sign_bit_is (suc zero) h = refl
sign_bit_is (suc (suc n)) h = absurd (omega arith)

-- the parts of a word have room in the format, and parts that have room are put together to a word
pub split_code : (f : Format) (w : ℕ) → IsFormat f → IsCode f (split f w)
unfolding split
split_code f w formed = record {
  field_fits = mod-lt (w / 2 ^ f.stored) (pow_pos (exponent_bits f));
  significand_fits = (leading_room f formed (w / 2 ^ f.stored % 2 ^ exponent_bits f) (w % 2 ^ f.stored) (mod-lt w (pow_pos f.stored))).0;
}

-- so have the parts c of a code, as a program has them with its format
pub held_code : (f held : Format) (w : ℕ) (c : Code) → IsFormat f → held ≡ f → c ≡ split f w → IsFormat held × IsCode held c
held_code f held w c formed e is = rw (is, e) (formed, split_code f w formed)

pub join_below : (f : Format) (c : Code) → IsFormat f → IsCode f c → join f c < 256 ^ f.length
unfolding join
join_below f c formed fits =
    rw (all_bits f formed)
    (digits_lt (upper_below f c (cond c.negative 1 0) fits refl) (mod-lt c.significand (pow_pos f.stored)))

-- a word taken apart and put together
pub join_split : (f : Format) (w : ℕ) → IsFormat f → w < 256 ^ f.length → join f (split f w) ≡ w
unfolding split join
join_split f w formed h =
    let S = 2 ^ f.stored in
    let E = 2 ^ exponent_bits f in
    let upper : w / S < 2 * E = (div-lt_iff_lt-mul (pow_pos f.stored)).1 (rw (all_bits f formed) at h) in
    rw (
      (leading_room f formed (w / S % E) (w % S) (mod-lt w (pow_pos f.stored))).1,
      sign_bit_is (w / S / E) ((div-lt_iff_lt-mul (pow_pos (exponent_bits f))).1 upper),
      div-add-mod' (w / S) E,
    ) (div-add-mod' w S)

-- two bits that the test finds the same, and back
same_bit : (a b : Bool) → beq a b ≡ true → a ≡ b
same_bit true true h = refl
same_bit true false h = sym h
same_bit false true h = h
same_bit false false h = refl

bit_same : (a b : Bool) → a ≡ b → beq a b ≡ true
bit_same true b h = rw (← h)
bit_same false b h = rw (← h)

-- a canonical code has its top bit set exactly where the field is above 0, and is no negative zero
pub canonical_parts : (f : Format) (c : Code) → is_canonical f c ≡ true → (leb (2 ^ (f.precision - 1)) c.significand ≡ ltb 0 c.field) × (not (c.negative && eqb c.significand 0) ≡ true)
unfolding is_canonical
canonical_parts f c h =
    let top = leb (2 ^ (f.precision - 1)) c.significand in
    let both = (and-eq-true_iff (beq top (ltb 0 c.field)) (not (c.negative && eqb c.significand 0))).0 h in
    (same_bit top (ltb 0 c.field) both.0, both.1)

pub parts_canonical : (f : Format) (c : Code) → leb (2 ^ (f.precision - 1)) c.significand ≡ ltb 0 c.field → not (c.negative && eqb c.significand 0) ≡ true → is_canonical f c ≡ true
unfolding is_canonical
parts_canonical f c h k = rw (bit_same (leb (2 ^ (f.precision - 1)) c.significand) (ltb 0 c.field) h, k)

-- a canonical code put together and taken apart
pub split_join : (f : Format) (c : Code) → IsFormat f → IsCode f c → is_canonical f c ≡ true → split f (join f c) ≡ c
unfolding split join
split_join f c formed fits canonical =
    let S = 2 ^ f.stored in
    let E = 2 ^ exponent_bits f in
    let sign : ℕ = cond c.negative 1 0 in
    let r : c.significand % S < S = mod-lt c.significand (pow_pos f.stored) in
    rw (
      digits_div (sign * E + c.field) r,
      digits_mod (sign * E + c.field) r,
      digits_div sign fits.field_fits,
      digits_mod sign fits.field_fits,
      sign_back c.negative,
      leading_back f formed c.field c.significand fits.significand_fits (canonical_parts f c canonical).0,
    )

-- ---- the judgement of a code

-- the field of all ones is one above that of the highest exponent
pub all_ones_are : (f : Format) → IsFormat f → all_ones f ≡ 2 * f.bias + 1
unfolding all_ones
all_ones_are f formed = omega (arith, formed.fields)

-- a number is given where the field is not all ones and the code is canonical, and a refusal does not depend on the number
pub judged_given : (f : Format) (c : Code) (x y : Number) → judged_code f c y ≡ given x → (eqb c.field (all_ones f) ≡ false) × (is_canonical f c ≡ true) × (y ≡ x)
unfolding judged_code
judged_given f c x y h = go (eqb c.field (all_ones f)) (is_canonical f c) refl refl h
  where
    go : (a k : Bool) → eqb c.field (all_ones f) ≡ a → is_canonical f c ≡ k → cond a (refused 10) (cond (not k) (refused 11) (given y)) ≡ given x
        → (eqb c.field (all_ones f) ≡ false) × (is_canonical f c ≡ true) × (y ≡ x)
    go false true a k m = (a, k, cc)
    go false false a k m = never cc
    go true k a e m = never cc

pub judged_refused : (f : Format) (c : Code) (x y : Number) (row : ℕ) → judged_code f c x ≡ refused row → judged_code f c y ≡ refused row
unfolding judged_code
judged_refused f c x y row h = go (eqb c.field (all_ones f)) (is_canonical f c) h
  where
    go : (a k : Bool) → cond a (refused 10) (cond (not k) (refused 11) (given x)) ≡ refused row → cond a (refused 10) (cond (not k) (refused 11) (given y)) ≡ refused row
    go true k m = m
    go false false m = m
    go false true m = never cc
