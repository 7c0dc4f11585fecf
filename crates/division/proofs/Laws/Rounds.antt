-- The quotient of two admissible numbers lies in the cell of its digits, and so the rounding of that cell is its rounding, with its mark.
use Rattle.std.proofs.Common.{◌≡◌, ℕ, suc, ◌+◌, ◌*◌, ◌/◌, ◌%◌, ◌^◌, ◌<◌, ◌≤◌, Bool, true, false, ltb, ℤ, pos, ◌-ℤ◌, nat_abs, sym, refl, ap, ◌∙◌, subst, ap₂, le_of_lt, mul-le-mul_right, mod-lt, lt_of_mul-lt-mul_right, mul-le-mul_left, mul-lt-mul_of_pos_right, mul-pos, div-add-mod', arith, pow_pos, pow_mono, pow-add, to_z-of_z, w32, SFits, to_z, of_z, ltb-false, ltb-true}
use mathlib.Core.Bool.{false≢true}
use native.Mathlib.Nat.{eq_of_mul-eq-mul_right}
use lib.Ieee.{unlike, minus}
use Rattle.numbers.specs.Biased.{bias, origin}
use Rattle.numbers.specs.Accuracy.{marked_by}
use Rattle.numbers.specs.Answer.{rounded}
use Rattle.numbers.specs.Cell.{end_of, cell_rounding}
use Rattle.numbers.specs.Fraction.{Fraction, IsFraction, value, quotient, signed, IsScaled}
use Rattle.numbers.specs.Grid.{InCell}
use Rattle.numbers.specs.Number.{is_admissible}
use Rattle.numbers.specs.Rounding.{by_mode, precision_of}
use Rattle.numbers.specs.declared.number.Number.{Number}
use Rattle.numbers.specs.declared.number.Number.TheVariants.{Zero, Finite}
use Rattle.numbers.specs.declared.task.Mode.{Mode}
use Rattle.numbers.specs.declared.task.Task.{Task}
use Rattle.numbers.proofs.Laws.Minus.{minus_same, suc_minus, minus_minus, minus_less}
use Rattle.numbers.proofs.Laws.Bias.{working}
use Rattle.numbers.proofs.Laws.Cell.{above_zero, exponent_cell}
use Rattle.numbers.proofs.Laws.Fractions.{quotient_zero}
use Rattle.numbers.proofs.Laws.Powers.{top_bit, below_top}
use Rattle.numbers.proofs.Laws.Refusals.{range_precision}
use Rattle.numbers.proofs.Laws.EveryValue.{grid_rounds, scaled_binary}
use Rattle.numbers.proofs.Laws.SignedWords.{minus_fits}
use Rattle.numbers.proofs.Laws.Signs.{signed_abs}
use Rattle.numbers.proofs.Laws.Tasks.{given_rounded}
use Rattle.numbers.proofs.Laws.Value.{rounded_zero}
use Rattle.numbers.proofs.Laws.Scaled.{finite_scaled, zero_value, moved}
use Rattle.division.specs.Quotient.{is_zero}
use Rattle.division.specs.Judgement.{IsTask}
use Rattle.division.specs.Words.{IsSignificand, IsQuotient, IsGiven}
use Rattle.division.proofs.Laws.Admissible.{admissible_parts}
use Rattle.division.proofs.Laws.Quotients.{positive, quotient_size, quotient_sign}
use Rattle.division.proofs.Laws.Range.{IsBounded, lowest_admissible}

-- over plain numbers: N × D is (Q D + R) × E, so N lies in the cell Q of the grid E
cell_of_digits : (N E D Q R : ℕ) → 0 < E → R < D → N * D ≡ (Q * D + R) * E → InCell (ltb 0 R) N Q E
cell_of_digits N E D Q R E0 r h = go (ltb 0 R) (ltb-true 0 R) (ltb-false 0 R)
  where
    go : (rest : Bool) → (rest ≡ true → 0 < R) → (rest ≡ false → R ≤ 0) → InCell rest N Q E
    go false some none =
        let z : R ≡ 0 = let l = none refl in omega arith in
        eq_of_mul-eq-mul_right D (omega (arith, r)) N (Q * E) (omega (arith, h, ap (λ (n : ℕ). n * E) z))
    go true some none = (
      lt_of_mul-lt-mul_right D (omega (arith, h, mul-lt-mul_of_pos_right {k = E} (some refl) E0)),
      lt_of_mul-lt-mul_right D (omega (arith, h, mul-lt-mul_of_pos_right {k = E} r E0)),
    )

-- a quotient of significands has 81 bits at least: k is 2^63 and v is 2^80
enough : (k v P D Q R : ℕ) → 0 < v → k ≤ P → D < 2 * k → P * (2 * v) ≡ Q * D + R → R < D → v ≤ Q
enough k v P D Q R v0 top word h r =
    let l : v < Q + 1 = lt_of_mul-lt-mul_right (2 * k) (omega (arith, h, r, mul-le-mul_right (2 * v) top, mul-le-mul_left (Q + 1) (le_of_lt word))) in
    omega arith

-- and 82 at the most
few : (k v P D Q R : ℕ) → k ≤ D → P < 2 * k → P * (2 * v) ≡ Q * D + R → 0 < v → Q < 4 * v
few k v P D Q R top word h v0 = lt_of_mul-lt-mul_right k (omega (arith, h, mul-le-mul_left Q top, mul-lt-mul_of_pos_right {k = 2 * v} word (omega arith)))

module _ (p d : Number) (t s : Bool) (e f : ℤ) (P D : ℕ) (p-is : p ≡ Finite t e P) (d-is : d ≡ Finite s f D)
    (p-fit : is_admissible p ≡ true) (d-fit : is_admissible d ≡ true) where
  pub p_parts : IsBounded lowest_admissible (Finite t e P)
  p_parts = admissible_parts (Finite t e P) (subst (λ (x : Number). is_admissible x ≡ true) p-is p-fit)

  pub d_parts : IsBounded lowest_admissible (Finite s f D)
  d_parts = admissible_parts (Finite s f D) (subst (λ (x : Number). is_admissible x ≡ true) d-is d-fit)

  abbrev a : ℕ
  a = p_parts.0

  abbrev b : ℕ
  b = d_parts.0

  pub both_significands : IsSignificand P × IsSignificand D
  both_significands = (record { top = p_parts.2.top; word = p_parts.2.word }, record { top = d_parts.2.top; word = d_parts.2.word })

  -- the exponents, as the machine subtracts them
  module _ (p-fits : SFits w32 e) (d-fits : SFits w32 f) where
    difference_is : to_z w32 (of_z w32 e) -ℤ to_z w32 (of_z w32 f) ≡ minus a b
    difference_is =
        ap₂ (λ (y z : ℤ). y -ℤ z) (to_z-of_z p-fits ∙ p_parts.1) (to_z-of_z d-fits ∙ d_parts.1)
        ∙ minus_minus a bias b bias
        ∙ minus_same (a + bias) (bias + b) a b (omega arith)

    pub difference_fits : SFits w32 (to_z w32 (of_z w32 e) -ℤ to_z w32 (of_z w32 f))
    difference_fits = rw difference_is (minus_fits a b (omega (arith, p_parts.2.highest)) (omega (arith, d_parts.2.highest)))

    less_is : to_z w32 (of_z w32 (to_z w32 (of_z w32 e) -ℤ to_z w32 (of_z w32 f))) -ℤ pos 81 ≡ minus a (b + 81)
    less_is = ap (λ (z : ℤ). z -ℤ pos 81) (to_z-of_z difference_fits ∙ difference_is) ∙ minus_less a b 81

    pub less_fits : SFits w32 (to_z w32 (of_z w32 (to_z w32 (of_z w32 e) -ℤ to_z w32 (of_z w32 f))) -ℤ pos 81)
    less_fits = rw less_is (minus_fits a (b + 81) (omega (arith, p_parts.2.highest)) (omega (arith, d_parts.2.highest)))

    pub exponent_is : to_z w32 (of_z w32 (to_z w32 (of_z w32 (to_z w32 (of_z w32 e) -ℤ to_z w32 (of_z w32 f))) -ℤ pos 81)) ≡ minus a (b + 81)
    exponent_is = to_z-of_z less_fits ∙ less_is

  -- the quotient, and its cell
  abbrev x : Fraction
  x = quotient (value (Finite t e P)) (value (Finite s f D))

  D0 : 0 < D
  D0 = omega (arith, d_parts.2.top)

  divisor : IsScaled (value (Finite s f D)) s D b origin
  divisor = finite_scaled s b D d_parts.1

  dividend : IsScaled (value (Finite t e P)) t P (a + 64) (origin + 64)
  dividend = moved (finite_scaled t a P p_parts.1) (omega arith)

  x0 : IsFraction x
  x0 = positive D0 divisor dividend

  sign : x.numerator ≡ signed (unlike t s) (nat_abs x.numerator)
  sign = sym (signed_abs x.numerator) ∙ ap (λ (u : Bool). signed u (nat_abs x.numerator)) (quotient_sign D0 divisor dividend (omega (arith, p_parts.2.top)))

  module _ (Q R : ℕ) (digits : IsQuotient (P * 2 ^ 81) D Q R) where
    cell : InCell (ltb 0 R) (nat_abs x.numerator * 2 ^ (b + 81)) Q (x.denominator * 2 ^ a)
    cell =
        cell_of_digits (nat_abs x.numerator * 2 ^ (b + 81)) (x.denominator * 2 ^ a) D Q R (mul-pos x0 (pow_pos a)) digits.below
        (sized (nat_abs x.numerator) x.denominator (2 ^ a) (2 ^ b) (2 ^ (a + 64)) (2 ^ (b + 64)) (2 ^ (b + 81)) (pow-add 2 a 64) (pow-add 2 b 64) (pow-add 2 b 81)
        (quotient_size D0 divisor dividend))
      where
        sized : (X E i o i64 o64 o81 : ℕ) → i64 ≡ i * 2 ^ 64 → o64 ≡ o * 2 ^ 64 → o81 ≡ o * 2 ^ 81 → X * o64 * D ≡ P * i64 * E → X * o81 * D ≡ (Q * D + R) * (E * i)
        sized X E i o i64 o64 o81 k l m h =
            let plain : X * o * D ≡ P * i * E = omega (arith, h, ap (λ (n : ℕ). P * n * E) k, ap (λ (n : ℕ). X * n * D) l) in
            omega (arith, ap (λ (n : ℕ). n * 2 ^ 81) plain, ap (λ (n : ℕ). X * n * D) m, ap (λ (n : ℕ). n * (E * i)) digits.parts)

    fine : (n : ℕ) → n ≤ 64 → 2 * 2 ^ n ≤ Q
    fine n n1 = let k = enough (2 ^ 63) (2 ^ 80) P D Q R (pow_pos 80) p_parts.2.top d_parts.2.word digits.parts digits.below in omega (arith, pow_mono {i = n} n1)

    pub quotient_rounds : (task : Task) → IsTask task → (z : ℤ) → z ≡ minus a (b + 81) → cell_rounding (unlike t s) Q (ltb 0 R) z task ≡ marked_by task (quotient (value p) (value d))
    unfolding cell_rounding
    quotient_rounds task n z is =
        rw (p-is, d-is, is, range_precision (precision_of task) n.0 n.1)
        (sym (scaled_binary task (unlike t s) (end_of Q (ltb 0 R)) a (b + 81) n.0)
        ∙ sym (grid_rounds task (unlike t s) x Q a (b + 81) x0 sign n.0 n.1 (ltb 0 R) (λ (h : ltb 0 R ≡ true). fine (precision_of task) n.1) cell))

    -- in every mode the quotient is given: its exponent is far inside the working range
    finite_given : (mode : Mode) (n : ℕ) → 1 ≤ n → n ≤ 64 → IsGiven (rounded (by_mode mode n) x)
    unfolding IsGiven
    finite_given mode n n0 n1 =
        let least = enough (2 ^ 63) (2 ^ 80) P D Q R (pow_pos 80) p_parts.2.top d_parts.2.word digits.parts digits.below in
        let most = few (2 ^ 63) (2 ^ 80) P D Q R d_parts.2.top p_parts.2.word digits.parts (pow_pos 80) in
        let bit = top_bit Q (omega (arith, least)) in
        let low : 80 ≤ bit.0 = below_top 80 bit.0 Q least bit.2 in
        let high : bit.0 ≤ 81 = below_top bit.0 81 Q bit.1 most in
        let i = bit.0 + a in
        let o = b + 81 in
        let is = exponent_cell (ltb 0 R) (nat_abs x.numerator) x.denominator a o Q bit.0 n x0 n0 (omega arith) bit.1 bit.2 cell in
        let some = above_zero (ltb 0 R) (nat_abs x.numerator) x.denominator a o Q bit.0 n x0 n0 (omega arith) bit.1 bit.2 cell in
        let p-range = p_parts.2 in
        let d-range = d_parts.2 in
        rw (given_rounded mode n x x0 n0 some (rw is (working i o (omega arith) (omega arith))) (rw (is, suc_minus i o) (working (suc i) o (omega arith) (omega arith)))) tt

pub quotient_given : (p d : Number) → is_admissible p ≡ true → is_admissible d ≡ true → is_zero d ≡ false → (mode : Mode) (n : ℕ) → 1 ≤ n → n ≤ 64
    → IsGiven (rounded (by_mode mode n) (quotient (value p) (value d)))
unfolding is_zero IsGiven
quotient_given p Zero p-fit d-fit nonzero mode n n0 n1 = absurd (false≢true (sym nonzero))
quotient_given Zero (Finite s f D) p-fit d-fit nonzero mode n n0 n1 =
    rw (rounded_zero (by_mode mode n) (quotient (value Zero) (value (Finite s f D))) (quotient_zero (value Zero) (value (Finite s f D)) zero_value)) tt
quotient_given (Finite t e P) (Finite s f D) p-fit d-fit nonzero mode n n0 n1 =
    let parts = admissible_parts (Finite s f D) d-fit in
    let D0 : 0 < D = omega (arith, parts.2.top) in
    finite_given (Finite t e P) (Finite s f D) t s e f P D refl refl p-fit d-fit (P * 2 ^ 81 / D) (P * 2 ^ 81 % D)
    (record { parts = sym (div-add-mod' (P * 2 ^ 81) D); below = mod-lt (P * 2 ^ 81) D0 }) mode n n0 n1
