-- The values after steps 9 to 32 of an admissible dividend and divisor: no step fails its claim, and the last is the exact quotient rounded once.
use mathlib.Core.Path.{◌≡◌, refl, sym, ap, ap₂, ◌∙◌}
use mathlib.Core.Bool.{Bool, true, false}
use mathlib.Core.List.{List, [], ◌∷◌, ◌++◌, map}
use Prim.Native.Nat.{ℕ, zero, suc, ◌+◌, ◌*◌, ◌^◌, ◌≤◌, ◌<◌}
use native.Mathlib.Nat.{le_of_suc-le-suc, not-suc-le-zero, mul-lt-mul_of_pos_right, mul-pos}
use native.Mathlib.Omega.{arith}
use lib.Dec.{lit≤}
use lib.Ieee.{minus}
use lib.IntN.{nat_abs}
use lib.ListN.{length, get_or}
use lib.Pow.{pow-add, pow_pos}
use Rattle.numbers.specs.Biased.{bias, origin}
use Rattle.numbers.specs.Answer.{Outcome, given, refused, rounded}
use Rattle.numbers.specs.Fraction.{value, sum, product, quotient, IsScaled}
use Rattle.numbers.specs.Number.{is_admissible}
use Rattle.numbers.specs.Rounding.{by_mode, claim}
use Rattle.numbers.specs.declared.number.Number.{Number}
use Rattle.numbers.specs.declared.number.Number.TheVariants.{Zero, Finite}
use Rattle.numbers.specs.declared.task.Mode.{Mode}
use Rattle.numbers.specs.declared.task.Mode.TheVariants.{Trunc, Away}
use Rattle.numbers.proofs.Laws.Same.{same_number}
use Rattle.numbers.proofs.Laws.Value.{rounded_zero}
use Rattle.numbers.proofs.Laws.Scaled.{origin_is, working_scaled, finite_scaled, zero_value, zero_scaled, scaled_size, scaled_some, equal_scaled, below_scaled, value_fraction}
use Rattle.numbers.proofs.Laws.Tasks.{claimed_scaled}
use Rattle.division.proofs.Laws.Admissible.{admissible_parts, admissible_working}
use Rattle.division.proofs.Laws.Range.{InRange, IsBounded, lowest_admissible, highest_admissible}
use Rattle.steps.specs.Run.{digit_of, less_of, steps_of, digit_steps, sum_steps}
use Rattle.steps.specs.Steps.{lines, line_of, line_of_both, result_at, worked_out, after_step, Fails}
use Rattle.steps.proofs.Laws.OneDigit.{digit_away, digit_trunc}
use Rattle.steps.proofs.Laws.DigitSum.{HasFourDigits, HasSum, digits_sum}
use Rattle.steps.proofs.Laws.Failing.{none_fails}
use Rattle.steps.proofs.Laws.Halves.{halves}
use Rattle.steps.proofs.Laws.Reciprocal.{reciprocal}
use Rattle.steps.proofs.Laws.Run.{item}
use Rattle.steps.proofs.Laws.Terms.{HasReciprocal, HasHalves, IsPrepared, Under, HasDigit, HasNext, IsLast, lowest_after}
use Rattle.steps.proofs.Laws.Worked.{IsWorked, worked}
use Rattle.steps.proofs.TableLines.{all_lines, line_9, first_digit_lines, second_digit_lines, third_digit_lines, line_28, line_29, sum_lines}

-- ---- step 9: the dividend is its own remainder

claim_kept : (p : Number) → is_admissible p ≡ true → rounded (claim 64) (value p) ≡ given p
claim_kept Zero fit = rounded_zero (claim 64) (value Zero) zero_value
claim_kept (Finite s e S) fit = go (admissible_parts (Finite s e S) fit)
  where
    go : IsBounded lowest_admissible (Finite s e S) → rounded (claim 64) (value (Finite s e S)) ≡ given (Finite s e S)
    go (b, is, range) =
        let own = finite_scaled s b S is in
        let k = claimed_scaled 64 own (lit≤ tt) (lit≤ tt) range.word (omega (arith, origin_is)) (omega (arith, origin_is)) in
        k.step ∙ ap given (same_number k.number (Finite s e S) k.fit (admissible_working (Finite s e S) fit) (equal_scaled k.amount own))

-- |p| < 2 |d| in units of 2^(e_p − e_d)
twice_under : (D b : ℕ) (p : Number) {s : Bool} {S : ℕ} → IsScaled (value p) s S b origin → S < 2 * D → Under D (b + 65) p
twice_under D b p {S = S} h less =
    (below_scaled (value p) D (b + 65) (origin + 64)).1 (twice (nat_abs (value p).numerator) (value p).denominator origin h.positive (scaled_size h))
  where
    twice : (X Y o : ℕ) → 0 < Y → X * 2 ^ o ≡ S * 2 ^ b * Y → X * 2 ^ (o + 64) < D * 2 ^ (b + 65) * Y
    twice X Y o Y0 e =
        omega (
          arith,
          ap (λ (n : ℕ). X * n) (pow-add 2 o 64),
          ap (λ (n : ℕ). D * n * Y) (pow-add 2 b 65),
          ap (λ (n : ℕ). n * 2 ^ 64) e,
          mul-lt-mul_of_pos_right {k = 2 ^ b * Y} less (mul-pos (pow_pos b) Y0),
        )

-- the first grid is 65 above the exponent of p, since S < 2 D; a digit needs its grid 24 above its remainder
first_grid : (D : ℕ) (p : Number) → 2 ^ 63 ≤ D → IsBounded lowest_admissible p → (g : ℕ) × (lowest_admissible + 24 ≤ g) × (g ≤ highest_admissible + 65) × Under D g p
first_grid D Zero top remainder = (lowest_admissible + 65, lit≤ tt, lit≤ tt, twice_under D lowest_admissible Zero {s = false} (zero_scaled (value_fraction Zero) zero_value) (omega arith))
first_grid D (Finite s e S) top (b, is, range) = (b + 65, omega arith, omega arith, twice_under D b (Finite s e S) (finite_scaled s b S is) (omega arith))

-- one of numbers that are all given
given_at : (xs : List Number) (j : ℕ) → j < length xs → get_or (map given xs) j (refused 6) ≡ given (get_or xs j Zero)
given_at [] j h = absurd (not-suc-le-zero h)
given_at (x ∷ xs) zero h = refl
given_at (x ∷ xs) (suc j) h = given_at xs j (le_of_suc-le-suc h)

-- ---- all thirty-two

module _ (s : Bool) (b D : ℕ) (range : InRange lowest_admissible b D) (p : Number) (fit : is_admissible p ≡ true) where
  abbrev d : Number
  d = Finite s (minus b bias) D

  recip : HasReciprocal s b D d
  recip = reciprocal s b D range

  parts : HasHalves s b D d
  parts = halves s b D range

  abbrev r : Number
  r = recip.s2

  abbrev h : Number
  h = parts.h

  abbrev l : Number
  l = parts.l

  prepared : IsPrepared s b D d h l r
  prepared = record { range = range; amount = working_scaled s b D; halves = parts.halves; reciprocal = recip.reciprocal }

  grid : (g : ℕ) × (lowest_admissible + 24 ≤ g) × (g ≤ highest_admissible + 65) × Under D g p
  grid = first_grid D p range.top (admissible_parts p fit)

  -- the digits, each with its remainder
  first : (a : HasDigit Away b D grid.0 d r p) × (lowest_admissible ≤ a.unit) × HasNext b D a.unit (lowest_after 1) d h l p a.digit
  first = digit_away s b D d h l r prepared lowest_admissible grid.0 (lit≤ tt) grid.1 p (admissible_parts p fit) grid.3

  second : (a : HasDigit Away b D first.0.unit d r first.2.next) × (lowest_after 1 ≤ a.unit) × HasNext b D a.unit (lowest_after 2) d h l first.2.next a.digit
  second = digit_away s b D d h l r prepared (lowest_after 1) first.0.unit (lit≤ tt) (omega (arith, first.1)) first.2.next first.2.remainder first.2.under

  third : (a : HasDigit Away b D second.0.unit d r second.2.next) × (lowest_after 2 ≤ a.unit) × HasNext b D a.unit (lowest_after 3) d h l second.2.next a.digit
  third = digit_away s b D d h l r prepared (lowest_after 2) second.0.unit (lit≤ tt) (omega (arith, second.1)) second.2.next second.2.remainder second.2.under

  fourth : (a : HasDigit Trunc b D third.0.unit d r third.2.next) × (lowest_after 3 ≤ a.unit) × IsLast d third.2.next a.digit
  fourth = digit_trunc s b D d h l r prepared (lowest_after 3) third.0.unit (lit≤ tt) (omega (arith, third.1)) third.2.next third.2.remainder third.2.under

  digits : HasFourDigits b p d first.0.digit second.0.digit third.0.digit fourth.0.digit
  digits = record {
    p1 = first.2.next;
    p2 = second.2.next;
    p3 = third.2.next;
    g0 = first.0.unit;
    g1 = second.0.unit;
    g2 = third.0.unit;
    g3 = fourth.0.unit;
    divisor = scaled_some (working_scaled s b D) (omega arith);
    first = first.2.rest;
    second = second.2.rest;
    third = third.2.rest;
    digit_0 = first.0.is_digit;
    digit_1 = second.0.is_digit;
    digit_2 = third.0.is_digit;
    digit_3 = fourth.0.is_digit;
    finer_1 = second.0.finer;
    finer_2 = third.0.finer;
    finer_3 = fourth.0.finer;
    highest = omega (arith, first.0.finer, grid.2);
    lowest = omega (arith, fourth.1);
    below_unit = third.2.below_unit;
    last = fourth.2;
    reaches = first.0.reaches;
  }

  total : HasSum p d first.0.digit second.0.digit third.0.digit fourth.0.digit
  total = digits_sum digits range.lowest range.highest

  module _ (mode : Mode) (n : ℕ) (n0 : 1 ≤ n) (n1 : n ≤ 64) where
    abbrev at : ℕ → Outcome
    at k = after_step p d (by_mode mode n) k

    early : IsWorked recip parts p (by_mode mode n)
    early = worked recip parts p (by_mode mode n)

    after_9 : at 9 ≡ given p
    unfolding line_of
    after_9 = line_9 p d (by_mode mode n) ∙ claim_kept p fit

    -- a digit's six steps
    abbrev digit_numbers : {g c : ℕ} {x : Number} (a : HasDigit Away b D g d r x) (m : HasNext b D a.unit c d h l x a.digit) → List Number
    digit_numbers a m = a.upper ∷ a.digit ∷ m.high ∷ m.low ∷ m.less ∷ m.next ∷ []

    digit_given : {g c : ℕ} {x : Number} (y : Outcome) → y ≡ given x → (a : HasDigit Away b D g d r x) (m : HasNext b D a.unit c d h l x a.digit)
        → digit_steps y (at 6) (at 7) (at 8) ≡ map given (digit_numbers a m)
    unfolding steps_of digit_of less_of line_of line_of_both
    digit_given y is a m =
        rw (is, early.after_6, early.after_7, early.after_8, a.first_step, a.second_step, m.high_step, m.low_step, m.less_step, m.next_step)

    first_given : digit_steps (at 9) (at 6) (at 7) (at 8) ≡ map given (digit_numbers first.0 first.2)
    first_given = digit_given (at 9) after_9 first.0 first.2

    after_15 : at 15 ≡ given first.2.next
    after_15 = item 5 (sym (first_digit_lines p d (by_mode mode n)) ∙ first_given)

    second_given : digit_steps (at 15) (at 6) (at 7) (at 8) ≡ map given (digit_numbers second.0 second.2)
    second_given = digit_given (at 15) after_15 second.0 second.2

    after_21 : at 21 ≡ given second.2.next
    after_21 = item 5 (sym (second_digit_lines p d (by_mode mode n)) ∙ second_given)

    third_given : digit_steps (at 21) (at 6) (at 7) (at 8) ≡ map given (digit_numbers third.0 third.2)
    third_given = digit_given (at 21) after_21 third.0 third.2

    after_27 : at 27 ≡ given third.2.next
    after_27 = item 5 (sym (third_digit_lines p d (by_mode mode n)) ∙ third_given)

    after_28 : at 28 ≡ given fourth.0.upper
    unfolding line_of
    after_28 = line_28 p d (by_mode mode n) ∙ ap (line_of (by_mode Trunc 32) value) after_27 ∙ fourth.0.first_step

    after_29 : at 29 ≡ given fourth.0.digit
    unfolding digit_of line_of line_of_both
    after_29 =
        line_29 p d (by_mode mode n) ∙ ap₂ (digit_of (by_mode Trunc 24)) after_27 early.after_6
        ∙ ap (λ (x : Outcome). line_of_both (by_mode Trunc 24) product x (given r)) fourth.0.first_step
        ∙ fourth.0.second_step

    -- the sums
    final : (y : Number) × (rounded (by_mode mode n) (sum (value total.qq1) (value first.0.digit)) ≡ given y) × (rounded (by_mode mode n) (quotient (value p) (value d)) ≡ given y)
    final = total.step_32 mode n n0 n1

    sums_given : sum_steps (by_mode mode n) (at 11) (at 17) (at 23) (at 29) ≡ given total.qq2 ∷ given total.qq1 ∷ given final.0 ∷ []
    unfolding sum_steps line_of_both
    sums_given =
        let q0 : at 11 ≡ given first.0.digit = item 1 (sym (first_digit_lines p d (by_mode mode n)) ∙ first_given) in
        let q1 : at 17 ≡ given second.0.digit = item 1 (sym (second_digit_lines p d (by_mode mode n)) ∙ second_given) in
        let q2 : at 23 ≡ given third.0.digit = item 1 (sym (third_digit_lines p d (by_mode mode n)) ∙ third_given) in
        rw (q0, q1, q2, after_29, total.step_30, total.step_31, final.1)

    -- the exact quotient rounded once
    pub last_step_is : at 32 ≡ rounded (by_mode mode n) (quotient (value p) (value d))
    last_step_is = item 2 (sym (sum_lines p d (by_mode mode n)) ∙ sums_given) ∙ sym final.2

    -- the thirty-two numbers
    pub numbers : List Number
    numbers =
        recip.s0 ∷ recip.dr ∷ recip.t0 ∷ recip.s1 ∷ recip.t1 ∷ r ∷ h ∷ l ∷ p
        ∷ digit_numbers first.0 first.2 ++ digit_numbers second.0 second.2 ++ digit_numbers third.0 third.2
        ++ fourth.0.upper ∷ fourth.0.digit ∷ total.qq2 ∷ total.qq1 ∷ final.0 ∷ []

    pub all_given : worked_out p d (lines (by_mode mode n)) [] ≡ map given numbers
    unfolding numbers
    all_given =
        all_lines p d (by_mode mode n)
        ∙ rw (
          first_given,
          second_given,
          third_given,
          sums_given,
          after_28,
          after_29,
          after_9,
          early.after_1,
          early.after_2,
          early.after_3,
          early.after_4,
          early.after_5,
          early.after_6,
          early.after_7,
          early.after_8,
        )

    all_counted : length numbers ≡ 32
    unfolding numbers
    all_counted = refl

    -- no step fails its claim
    pub no_step_fails : (k : ℕ) → Fails p d (by_mode mode n) k → ⊥
    no_step_fails k = none_fails p d (by_mode mode n) numbers all_given k

    -- every step is given
    pub step_given : (k : ℕ) → 1 ≤ k → k ≤ 32 → (x : Number) × (at k ≡ given x)
    unfolding after_step result_at
    step_given zero k0 k1 = absurd (not-suc-le-zero k0)
    step_given (suc k) k0 k1 = (get_or numbers k Zero, item k all_given ∙ given_at numbers k (rw all_counted k1))
