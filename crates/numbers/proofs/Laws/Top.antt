-- Rounding a magnitude F of 128 bits with its top bit set: its upper n bits are the whole number, and a word and a flag stand for the fraction.
use mathlib.Core.Path.{◌≡◌, refl, sym, ap, ◌∙◌}
use mathlib.Core.Bool.{Bool, true, false, cond}
use Prim.Native.Nat.{ℕ, zero, suc, ◌+◌, ◌-◌, ◌*◌, ◌/◌, ◌%◌, ◌^◌, ◌≤◌, ◌<◌}
use native.Mathlib.Omega.{arith}
use native.Mathlib.Nat.{add_comm, add-zero, div-add-mod', mod-lt, le_antisymm, le_of_eq, le_trans, lt_irrefl, lt_of_le_of_lt, lt_of_lt_of_le, mod-eq_of_lt, mul_assoc, mul_comm, mul-one, mul-le-mul, mul-lt-mul_of_pos_right, le_of_mul-le-mul_right, lt_of_mul-lt-mul_right, div-lt_iff_lt-mul}
use lib.Arith.{digits_div, digits_mod}
use lib.Dec.{T, ltb, eqb}
use lib.Ieee.{minus}
use lib.IntN.{ℤ, nat_abs, suc_ℤ}
use lib.Pow.{pow-add, pow_pos}
use borrow.Author.Tests.{ltb-true, ltb-false, lt-ltb, eq-eqb, ne_eqb}
use Rattle.numbers.specs.Number.{is_working_exponent}
use Rattle.numbers.specs.Accuracy.{accuracy_of}
use Rattle.numbers.specs.Fraction.{IsFraction, is_negative, scaled, IsScaled, value}
use Rattle.numbers.specs.Rounding.{goes_up, whole_of, placed, round}
use Rattle.numbers.specs.Answer.{claimed, judged}
use Rattle.numbers.specs.Grid.{InCell, bit_of}
use Rattle.numbers.specs.Cell.{wide}
use Rattle.numbers.specs.Magnitude.{whole_accuracy, accuracy_by}
use Rattle.numbers.specs.declared.number.Number.TheVariants.{Finite}
use Rattle.numbers.specs.declared.task.Mode.{Mode}
use Rattle.numbers.specs.declared.task.Mode.TheVariants.{Trunc}
use Rattle.numbers.proofs.Laws.Accuracy.{accuracy_scaled, whole_exact, whole_less, whole_more}
use Rattle.numbers.proofs.Laws.Cell.{cell_ratio, round_cell, claim_cell}
use Rattle.numbers.proofs.Laws.Misses.{fraction_left}
use Rattle.numbers.proofs.Laws.Powers.{word_power, power_sum}
use Rattle.numbers.proofs.Laws.Scaled.{scaled_own, finer}
use Rattle.numbers.proofs.Laws.Signs.{abs_signed, negative_signed}
use Rattle.numbers.proofs.Laws.Tasks.{round_scaled}
use Rattle.numbers.proofs.Laws.Tests.{zero_same}
use Rattle.numbers.proofs.Laws.Value.{whole_alone, fraction_alone}
use Rattle.numbers.proofs.Laws.Whole.{whole_cell, fraction_cell, flagged, cell_of_is}

-- 2^(128 - n) is a word above 2^(64 - n)
pub word_above : (n : ℕ) → n ≤ 64 → 2 ^ (64 - n) * 2 ^ 64 ≡ 2 ^ (128 - n)
word_above n h = sym (power_sum (128 - n) (64 - n) 64 (omega arith))

-- q units and a rest r, made q or q + 1 units: where that lies against F
unit_accuracy : (negative up inexact : Bool) (F U q r : ℕ) → q * U + r ≡ F → r < U → inexact ≡ ltb 0 r → (up ≡ true → 0 < r)
    → accuracy_by negative up inexact ≡ whole_accuracy negative ((q + cond up 1 0) * U) F
unfolding accuracy_by
unit_accuracy negative true false F U q r parts small some fraction = absurd (let l = ltb-false 0 r (sym some) in omega (arith, fraction refl))
unit_accuracy negative false false F U q r parts small some fraction = sym (whole_exact negative ((q + 0) * U) F (let l = ltb-false 0 r (sym some) in omega arith))
unit_accuracy false true true F U q r parts small some fraction = sym (whole_more false ((q + 1) * U) F (omega arith))
unit_accuracy true true true F U q r parts small some fraction = sym (whole_more true ((q + 1) * U) F (omega arith))
unit_accuracy false false true F U q r parts small some fraction = sym (whole_less false ((q + 0) * U) F (omega (arith, ltb-true 0 r (sym some))))
unit_accuracy true false true F U q r parts small some fraction = sym (whole_less true ((q + 0) * U) F (omega (arith, ltb-true 0 r (sym some))))

module _ (F n high low : ℕ) (rest : Bool) (n1 : n ≤ 64) (word : low < 2 ^ 64)
    (shifted : wide high low ≡ F / 2 ^ (64 - n)) (dropped : rest ≡ ltb 0 (F % 2 ^ (64 - n))) where
  cell : InCell rest (F * (2 * 2 ^ 63)) (wide high low) (2 ^ (128 - n))
  cell =
      cell_ratio rest F (wide high low) (2 ^ (64 - n)) (F * (2 * 2 ^ 63)) (2 ^ (128 - n)) (2 ^ 64) 1 (pow_pos 64) (pow_pos 0) (sym (mul-one (F * (2 * 2 ^ 63))))
      (word_above n n1 ∙ sym (mul-one (2 ^ (128 - n))))
      (rw (shifted, dropped) (cell_of_is F (2 ^ (64 - n)) (pow_pos (64 - n))))

  upper : wide high low / 2 ^ 64 ≡ high
  unfolding wide
  upper = digits_div high word

  lower : wide high low % 2 ^ 64 ≡ low
  unfolding wide
  lower = digits_mod high word

  pub top_whole : (mode : Mode) (negative : Bool) → whole_of mode negative F (2 ^ (128 - n)) ≡ high + cond (goes_up mode negative high (2 * low + bit_of rest) (2 ^ 65)) 1 0
  unfolding whole_of
  top_whole mode negative =
      whole_cell rest F (2 ^ (128 - n)) (wide high low) (2 ^ 63) (pow_pos (128 - n)) (pow_pos 63) cell mode negative
      ∙ rw ((flagged rest (wide high low) (2 ^ 64) (pow_pos 64)).0, (flagged rest (wide high low) (2 ^ 64) (pow_pos 64)).1, upper, lower)

  pub top_bits : ltb 0 (F % 2 ^ (128 - n)) ≡ ltb 0 (2 * low + bit_of rest)
  top_bits =
      fraction_cell rest F (2 ^ (128 - n)) (wide high low) (2 ^ 63) (pow_pos (128 - n)) (pow_pos 63) cell
      ∙ rw ((flagged rest (wide high low) (2 ^ 64) (pow_pos 64)).1, lower)

  -- the upper bits are the quotient
  high_is : F / 2 ^ (128 - n) ≡ high
  unfolding whole_of goes_up
  high_is = sym (add-zero (F / 2 ^ (128 - n))) ∙ top_whole Trunc false ∙ add-zero high

  -- where the result lies, by the tests that made it
  pub top_accuracy : (mode : Mode) (negative up inexact : Bool) → up ≡ goes_up mode negative high (2 * low + bit_of rest) (2 ^ 65) → inexact ≡ ltb 0 (2 * low + bit_of rest)
      → accuracy_by negative up inexact ≡ whole_accuracy negative (whole_of mode negative F (2 ^ (128 - n)) * 2 ^ (128 - n)) F
  top_accuracy mode negative up inexact decided some =
      rw (top_whole mode negative, ← decided)
      (unit_accuracy negative up inexact F (2 ^ (128 - n)) high (F % 2 ^ (128 - n))
      (ap (λ (q : ℕ). q * 2 ^ (128 - n) + F % 2 ^ (128 - n)) (sym high_is) ∙ div-add-mod' F (2 ^ (128 - n)))
      (mod-lt F (pow_pos (128 - n))) (some ∙ sym top_bits) fraction)
    where
      fraction : up ≡ true → 0 < F % 2 ^ (128 - n)
      fraction h =
          let goes : T (goes_up mode negative high (2 * low + bit_of rest) (2 ^ 65)) = rw (sym decided ∙ h) tt in
          ltb-true 0 (F % 2 ^ (128 - n)) (top_bits ∙ lt-ltb 0 (2 * low + bit_of rest) (fraction_left mode negative high (2 * low + bit_of rest) (2 ^ 65) (pow_pos 65) goes))

  pub high_small : F < 2 ^ 128 → high < 2 ^ n
  unfolding wide
  high_small F1 =
      lt_of_mul-lt-mul_right (2 ^ 64)
      (lt_of_le_of_lt (le_of_wide high low (F / 2 ^ (64 - n)) shifted)
      ((div-lt_iff_lt-mul (pow_pos (64 - n))).1 (rw (mul_assoc (2 ^ n) (2 ^ 64) (2 ^ (64 - n)), mul_comm (2 ^ 64) (2 ^ (64 - n)), word_above n n1, ← pow-add 2 n (128 - n)) (rw (whole_width n n1) F1))))
    where
      le_of_wide : (h l q : ℕ) → h * 2 ^ 64 + l ≡ q → h * 2 ^ 64 ≤ q
      le_of_wide h l q e = omega arith

      whole_width : (n : ℕ) → n ≤ 64 → n + (128 - n) ≡ 128
      whole_width n h = omega arith

-- The whole number q + 1 or q of n bits as a significand: the unit 2^(64 - n) is added in the last place, and passes 2^64 where q + 1 is 2^n.
module _ (negative : Bool) (e : ℤ) (n q : ℕ) (n1 : n ≤ 64) (q1 : q < 2 ^ n) where
  pub significand_is : q * 2 ^ (64 - n) % 2 ^ 64 ≡ q * 2 ^ (64 - n)
  significand_is = mod-eq_of_lt (lt_of_lt_of_le (mul-lt-mul_of_pos_right q1 (pow_pos (64 - n))) (le_of_eq (word_power n n1)))

  pub placed_same : placed negative e n (q + 0) ≡ Finite negative e (q * 2 ^ (64 - n))
  unfolding placed
  placed_same = rw (ne_eqb (q + 0) (2 ^ n) (λ (z : q + 0 ≡ 2 ^ n). omega arith), add-zero q)

  pub placed_carry : 2 ^ 64 ≤ q * 2 ^ (64 - n) + 2 ^ (64 - n) → placed negative e n (q + 1) ≡ Finite negative (suc_ℤ e) (2 ^ 63)
  unfolding placed
  placed_carry h =
      rw (eq-eqb (q + 1) (2 ^ n) (le_antisymm (le_of_suc q1) (le_of_mul-le-mul_right {k = 2 ^ (64 - n)} (le_trans (le_of_eq (word_power n n1)) (le_trans h (grown q (2 ^ (64 - n))))) (pow_pos (64 - n)))))
    where
      le_of_suc : {a b : ℕ} → a < b → a + 1 ≤ b
      le_of_suc l = omega arith

      grown : (a u : ℕ) → a * u + u ≤ (a + 1) * u
      grown a u = omega arith

  pub placed_next : q * 2 ^ (64 - n) + 2 ^ (64 - n) < 2 ^ 64 → placed negative e n (q + 1) ≡ Finite negative e (q * 2 ^ (64 - n) + 2 ^ (64 - n))
  unfolding placed
  placed_next h = rw (ne_eqb (q + 1) (2 ^ n) (λ (z : q + 1 ≡ 2 ^ n). full z)) (ap (Finite negative e) (one_more q (2 ^ (64 - n))))
    where
      one_more : (a u : ℕ) → (a + 1) * u ≡ a * u + u
      one_more a u = omega arith

      full : q + 1 ≡ 2 ^ n → ⊥
      full z = lt_irrefl (2 ^ 64) (lt_of_le_of_lt (le_of_eq (sym (word_power n n1) ∙ ap (λ (m : ℕ). m * 2 ^ (64 - n)) (sym z) ∙ one_more q (2 ^ (64 - n)))) h)

-- the upper n bits, cut off, are what trunc gives
pub upper_bits : (F n high low : ℕ) (rest : Bool) → n ≤ 64 → low < 2 ^ 64 → wide high low ≡ F / 2 ^ (64 - n) → rest ≡ ltb 0 (F % 2 ^ (64 - n)) → F < 2 ^ 128
    → (negative : Bool) (e : ℤ) → Finite negative e (high * 2 ^ (64 - n) % 2 ^ 64) ≡ placed negative e n (whole_of Trunc negative F (2 ^ (128 - n)))
unfolding goes_up
upper_bits F n high low rest n1 word shifted dropped F1 negative e =
    let q1 = high_small F n high low rest n1 word shifted dropped F1 in
    ap (Finite negative e) (significand_is negative e n high n1 q1)
    ∙ sym (ap (placed negative e n) (top_whole F n high low rest n1 word shifted dropped Trunc negative) ∙ placed_same negative e n high n1 q1)

-- sign × F × 2^x / 2^o, with z leading zeros above F
module _ (negative : Bool) (F x z o n : ℕ) (n0 : 1 ≤ n) (n1 : n ≤ 64) (low : 2 ^ 127 ≤ F * 2 ^ z) (high : F * 2 ^ z < 2 ^ 128) where
  F0 : 0 < F * 2 ^ x
  F0 = mul-le-mul (positive F (2 ^ z) (le_trans (pow_pos 127) low)) (pow_pos x)
    where
      positive : (a b : ℕ) → 1 ≤ a * b → 1 ≤ a
      positive zero b h = absurd (omega arith)
      positive (suc a) b h = omega arith

  exact_cell : InCell false (nat_abs (scaled negative F x o).numerator * 2 ^ (o + z)) (F * 2 ^ z) ((scaled negative F x o).denominator * 2 ^ x)
  exact_cell = rw (abs_signed negative (F * 2 ^ x), pow-add 2 o z) (omega arith)

  is_fraction : IsFraction (scaled negative F x o)
  is_fraction = pow_pos o

  sign : is_negative (scaled negative F x o).numerator ≡ negative
  sign = negative_signed negative (F * 2 ^ x) F0

  below_bit : n ≤ 127
  below_bit = omega arith

  quotient : (2 * (F * 2 ^ z) + 0) * 2 ^ (128 - n) ≡ F * 2 ^ z * (2 * (2 * 2 ^ (127 - n)))
  quotient = omega (arith, ap (λ (m : ℕ). F * 2 ^ z * m) (power_sum (128 - n) 1 (127 - n) (omega arith)))

  denominator0 : 0 < 2 * (2 * 2 ^ (127 - n))
  denominator0 = let p = pow_pos (127 - n) in omega arith

  pub round_top : (mode : Mode) → round mode n (scaled negative F x o) ≡ placed negative (minus (x + 127) (o + z)) n (whole_of mode negative (F * 2 ^ z) (2 ^ (128 - n)))
  round_top mode =
      round_cell (scaled negative F x o) false x (o + z) (F * 2 ^ z) 127 n is_fraction n0 below_bit low high exact_cell mode
      ∙ rw (sign, add_comm 127 x, whole_alone (2 * (F * 2 ^ z) + 0) (2 * (2 * 2 ^ (127 - n))) (F * 2 ^ z) (2 ^ (128 - n)) denominator0 (pow_pos (128 - n)) quotient mode negative)

  pub claim_top : claimed n (scaled negative F x o) ≡ judged (is_working_exponent (minus (x + 127) (o + z))) (eqb (F * 2 ^ z % 2 ^ (128 - n)) 0) (round Trunc n (scaled negative F x o))
  claim_top =
      claim_cell (scaled negative F x o) false x (o + z) (F * 2 ^ z) 127 n is_fraction n0 below_bit low high exact_cell
      ∙ rw (add_comm 127 x, zero_same ((2 * (F * 2 ^ z) + 0) % (2 * (2 * 2 ^ (127 - n)))) (F * 2 ^ z % 2 ^ (128 - n)) (fraction_alone (2 * (F * 2 ^ z) + 0) (2 * (2 * 2 ^ (127 - n))) (F * 2 ^ z) (2 ^ (128 - n)) denominator0 (pow_pos (128 - n)) quotient))

  -- where the rounding lies against the value
  pub top_lies : (mode : Mode) → accuracy_of (value (round mode n (scaled negative F x o))) (scaled negative F x o)
      ≡ whole_accuracy negative (whole_of mode negative (F * 2 ^ z) (2 ^ (128 - n)) * 2 ^ (128 - n)) (F * 2 ^ z)
  top_lies mode = accuracy_scaled (round_scaled mode n shifted (128 - n) n0 n1 (rw (top n n0 n1) low) (rw (top n n0 n1) high)) shifted
    where
      shifted : IsScaled (scaled negative F x o) negative (F * 2 ^ z) x (o + z)
      shifted = finer (scaled_own negative F x o) z (omega arith)

      top : (n : ℕ) → 1 ≤ n → n ≤ 64 → n - 1 + (128 - n) ≡ 127
      top n n0 n1 = omega arith
