-- How far rounding to n bits moves a value, and to which side: the bounds of each mode, for any fraction and a free n.
use mathlib.Core.Path.{◌≡◌, sym, ap, ◌∙◌}
use mathlib.Core.Bool.{Bool, true, false}
use Prim.Native.Nat.{ℕ, ◌+◌, ◌-◌, ◌*◌, ◌%◌, ◌^◌, ◌≤◌, ◌<◌}
use native.Mathlib.Omega.{arith}
use native.Mathlib.Nat.{mul-pos, mul-le-mul_right, mul-lt-mul_of_pos_right, lt_of_lt_of_le, lt_of_mul-lt-mul_right, pos_of_ne-zero, zero-mod}
use lib.Dec.{le→leb, lt→ltb}
use lib.IntN.{ℤ, nat_abs}
use lib.Signed.{le_z_yes, lt_z_yes}
use lib.Pow.{pow_pos}
use lib.Ieee.{up, down}
use lib.Ieee.Fits.{up_pos, down_pos}
use borrow.Author.Tests.{eqb-true, eqb-false, ne_eqb}
use Rattle.numbers.specs.Fraction.{Fraction, IsFraction, Equal, AtMost, value, difference, signed, magnitude, times, Below, is_negative}
use Rattle.numbers.specs.Rounding.{exponent_of, scaled_numerator, scaled_denominator, placed, rounded_at, round, has_at_most_bits}
use Rattle.numbers.specs.Grid.{unit_of}
use Rattle.numbers.specs.declared.number.Number.TheVariants.{Finite}
use Rattle.numbers.specs.declared.task.Mode.{Mode}
use Rattle.numbers.specs.declared.task.Mode.TheVariants.{Trunc, Away, Near, Sticky, Up, Down}
use Rattle.numbers.proofs.Laws.Scaled.{value_fraction}
use Rattle.numbers.proofs.Laws.Powers.{power_twice, word_parts}
use Rattle.numbers.proofs.Laws.Ratio.{Ratio, gap, ratio_swap, ratio_below, ratio_order, ratio_same, ratio_gap}
use Rattle.numbers.proofs.Laws.Signs.{abs_signed, negative_signed, signed_order}
use Rattle.numbers.proofs.Laws.Exponent.{exponent_reaches, exponent_named, scaled_positive}
use Rattle.numbers.proofs.Laws.Misses.{whole_exact, whole_kept, whole_trunc, whole_away, whole_down, whole_up, whole_miss, whole_near, whole_sticky}
use Rattle.numbers.proofs.Laws.Rounded.{exponent, numerator_at, denominator_at, whole, before, after, round_ratio, after_signed, before_signed, miss}

-- a gap against the unit k / c, by its ratio to the gap of whole numbers over b × k
below_unit : {u v c p q d : ℕ} (b k : ℕ) → Ratio u v c p q d → 0 < d → gap p q < b * k → gap u v * c < k * (d * b)
below_unit {d = d} b k r d0 l = rw (ratio_gap r) (omega (arith, mul-lt-mul_of_pos_right {k = d} l d0))

half_unit : {u v c p q d : ℕ} (b k : ℕ) → Ratio u v c p q d → 2 * gap p q ≤ b * k → gap u v * 2 * c ≤ k * (d * b)
half_unit {d = d} b k r l = omega (arith, ratio_gap r, mul-le-mul_right d l)

-- a gap below the unit k / (p × f), which is at most a / b over p
below_part : (g p f k a b d : ℕ) → 0 < p → 0 < b → g * (p * f) < k * (d * b) → k * p * b ≤ a * (p * f) → g * p * b < a * (d * b)
below_part g p f k a b d p0 b0 l h = lt_of_mul-lt-mul_right (p * f) (omega (arith, mul-lt-mul_of_pos_right {k = p * b} l (mul-pos p0 b0), mul-le-mul_right (d * b) h))

-- what a gap of less than v / p says of u
within_above : (u v p : ℕ) → gap u v * p < v → u * p < v * (p + 1)
within_above u v p l = let k : u ≤ v + gap u v = omega arith in omega (arith, mul-le-mul_right p k)

within_below : (u v p : ℕ) → 1 ≤ p → gap u v * p < v → v * (p - 1) < u * p
within_below u v p p0 l =
    let k : v ≤ u + gap u v = omega arith in
    let m : v * p ≡ v * (p - 1) + v = omega (arith, ap (λ (n : ℕ). v * n) (let e : p ≡ p - 1 + 1 = omega arith in e)) in
    omega (arith, mul-le-mul_right p k)

module _ (x : Fraction) (n : ℕ) (x0 : IsFraction x) (n0 : 1 ≤ n) (n1 : n ≤ 64) where
  denominator0 : 0 < denominator_at x
  denominator0 = scaled_positive (exponent x) x.denominator x0

  -- trunc goes no further from zero, away no nearer to it
  pub trunc_below : AtMost (magnitude (value (round Trunc n x))) (magnitude x)
  unfolding AtMost magnitude
  trunc_below = le_z_yes (le→leb _ _ (ratio_below (round_ratio Trunc n x x0 n0 n1) (whole_trunc (numerator_at n x) (denominator_at x) denominator0 (is_negative x.numerator))))

  pub away_above : AtMost (magnitude x) (magnitude (value (round Away n x)))
  unfolding AtMost magnitude
  away_above = le_z_yes (le→leb _ _ (ratio_below (ratio_swap (round_ratio Away n x x0 n0 n1)) (whole_away (numerator_at n x) (denominator_at x) denominator0 (is_negative x.numerator))))

  -- down goes no higher, up no lower, whatever the sign
  pub down_below : AtMost (value (round Down n x)) x
  unfolding AtMost
  down_below =
      let s = is_negative x.numerator in
      rw (after_signed Down n x x0 n0 n1, before_signed Down n x x0 n0 n1)
      (signed_order s (after Down n x) (before Down n x) (ratio_order (round_ratio Down n x x0 n0 n1) s (whole_down (numerator_at n x) (denominator_at x) denominator0 s)))

  pub up_above : AtMost x (value (round Up n x))
  unfolding AtMost
  up_above =
      let s = is_negative x.numerator in
      rw (after_signed Up n x x0 n0 n1, before_signed Up n x x0 n0 n1)
      (signed_order s (before Up n x) (after Up n x) (ratio_order (ratio_swap (round_ratio Up n x x0 n0 n1)) s (whole_up (numerator_at n x) (denominator_at x) denominator0 s)))

  -- near misses by at most half a unit
  pub near_half : AtMost (times 2 (magnitude (difference (value (round Near n x)) x))) (unit_of n x)
  unfolding AtMost times magnitude unit_of difference scaled_denominator
  near_half =
      rw (miss Near n x x0 n0 n1)
      (le_z_yes (le→leb _ _ (half_unit x.denominator (up (exponent x)) (round_ratio Near n x x0 n0 n1) (whole_near (numerator_at n x) (denominator_at x) denominator0 (is_negative x.numerator)))))

  -- every mode misses by less than a unit, and a unit is at most x / 2^(n − 1)
  missed : (mode : Mode) → nat_abs (difference (value (round mode n x)) x).numerator * (2 ^ (n - 1) * down (exponent x)) < up (exponent x) * ((value (round mode n x)).denominator * x.denominator)
  unfolding scaled_denominator
  missed mode =
      rw (miss mode n x x0 n0 n1)
      (below_unit x.denominator (up (exponent x)) (round_ratio mode n x x0 n0 n1) (value_fraction (round mode n x))
      (whole_miss (numerator_at n x) (denominator_at x) denominator0 mode (is_negative x.numerator)))

  unit : 0 < nat_abs x.numerator → up (exponent x) * 2 ^ (n - 1) * x.denominator ≤ nat_abs x.numerator * (2 ^ (n - 1) * down (exponent x))
  unit nz = omega (arith, mul-le-mul_right (2 ^ (n - 1)) (exponent_reaches (nat_abs x.numerator) x.denominator nz x0))

  pub miss_below_unit : (mode : Mode) → Below (magnitude (difference (value (round mode n x)) x)) (unit_of n x)
  unfolding Below magnitude unit_of difference
  miss_below_unit mode = lt_z_yes (lt→ltb _ _ (missed mode))

  pub unit_small : 0 < nat_abs x.numerator → AtMost (times (2 ^ (n - 1)) (unit_of n x)) (magnitude x)
  unfolding AtMost times magnitude unit_of
  unit_small nz = le_z_yes (le→leb _ _ (unit nz))

  pub miss_small : (mode : Mode) → 0 < nat_abs x.numerator → Below (times (2 ^ (n - 1)) (magnitude (difference (value (round mode n x)) x))) (magnitude x)
  unfolding Below times magnitude difference
  miss_small mode nz =
      lt_z_yes (lt→ltb _ _
      (below_part (nat_abs (difference (value (round mode n x)) x).numerator) (2 ^ (n - 1)) (down (exponent x)) (up (exponent x)) (nat_abs x.numerator) x.denominator
      (value (round mode n x)).denominator (pow_pos (n - 1)) x0 (missed mode) (unit nz)))

  -- so a rounded magnitude is x times less than 1 + 1 / 2^(n − 1), and times more than 1 − 1 / 2^(n − 1)
  nearby : (mode : Mode) → 0 < nat_abs x.numerator → gap (after mode n x) (before mode n x) * 2 ^ (n - 1) < before mode n x
  nearby mode nz =
      lt_of_mul-lt-mul_right x.denominator
      (rw (← miss mode n x x0 n0 n1)
      (omega (
        arith,
        below_part (nat_abs (difference (value (round mode n x)) x).numerator) (2 ^ (n - 1)) (down (exponent x)) (up (exponent x)) (nat_abs x.numerator) x.denominator
            (value (round mode n x)).denominator (pow_pos (n - 1)) x0 (missed mode) (unit nz),
      )))

  pub close_above : (mode : Mode) → 0 < nat_abs x.numerator → Below (times (2 ^ (n - 1)) (magnitude (value (round mode n x)))) (times (2 ^ (n - 1) + 1) (magnitude x))
  unfolding Below times magnitude
  close_above mode nz =
      lt_z_yes (lt→ltb (nat_abs (value (round mode n x)).numerator * 2 ^ (n - 1) * x.denominator) (nat_abs x.numerator * (2 ^ (n - 1) + 1) * (value (round mode n x)).denominator)
      (omega (arith, within_above (after mode n x) (before mode n x) (2 ^ (n - 1)) (nearby mode nz))))

  pub close_below : (mode : Mode) → 0 < nat_abs x.numerator → Below (times (2 ^ (n - 1) - 1) (magnitude x)) (times (2 ^ (n - 1)) (magnitude (value (round mode n x))))
  unfolding Below times magnitude
  close_below mode nz =
      lt_z_yes (lt→ltb (nat_abs x.numerator * (2 ^ (n - 1) - 1) * (value (round mode n x)).denominator) (nat_abs (value (round mode n x)).numerator * 2 ^ (n - 1) * x.denominator)
      (omega (arith, within_below (after mode n x) (before mode n x) (2 ^ (n - 1)) (pow_pos (n - 1)) (nearby mode nz))))

  -- sticky gives an odd whole number where there was a fraction
  pub sticky_odd : has_at_most_bits n (nat_abs x.numerator) x.denominator ≡ false
      → (q : ℕ) × (round Sticky n x ≡ Finite (is_negative x.numerator) (exponent_of (nat_abs x.numerator) x.denominator) (q * 2 ^ (64 - n))) × (q % 2 ≡ 1)
  unfolding has_at_most_bits round rounded_at placed scaled_numerator
  sticky_odd h =
      (whole Sticky n x, rw (ne_eqb (nat_abs x.numerator) 0 not_zero, ne_eqb (whole Sticky n x) (2 ^ n) no_carry), odd)
    where
      not_zero : nat_abs x.numerator ≡ 0 → ⊥
      not_zero z =
          eqb-false (numerator_at n x % denominator_at x) 0 h
          (ap (λ (m : ℕ). m * 2 ^ (n - 1) * down (exponent x) % denominator_at x) z ∙ ap (λ (m : ℕ). m % denominator_at x) (let k : 0 * 2 ^ (n - 1) * down (exponent x) ≡ 0 = omega arith in k) ∙ zero-mod (denominator_at x))

      odd : whole Sticky n x % 2 ≡ 1
      odd = whole_sticky (numerator_at n x) (denominator_at x) denominator0 (is_negative x.numerator) (pos_of_ne-zero (eqb-false (numerator_at n x % denominator_at x) 0 h))

      no_carry : whole Sticky n x ≡ 2 ^ n → ⊥
      no_carry e = omega (arith, odd, power_twice n n0)

  -- an n-bit value is kept by every mode
  pub kept : (mode : Mode) → has_at_most_bits n (nat_abs x.numerator) x.denominator ≡ true → Equal (value (round mode n x)) x
  unfolding has_at_most_bits Equal
  kept mode h =
      after_signed mode n x x0 n0 n1
      ∙ ap (λ (m : ℕ). signed (is_negative x.numerator) m)
      (ratio_same (round_ratio mode n x x0 n0 n1) (whole_kept (numerator_at n x) (denominator_at x) denominator0 mode (is_negative x.numerator) (eqb-true (numerator_at n x % denominator_at x) 0 h)))
      ∙ sym (before_signed mode n x x0 n0 n1)

-- a number of n bits is its own rounding
pub kept_number : (mode : Mode) (n : ℕ) (negative : Bool) (e : ℤ) (q : ℕ) → 1 ≤ n → n ≤ 64 → 2 ^ (n - 1) ≤ q → q < 2 ^ n
    → round mode n (value (Finite negative e (q * 2 ^ (64 - n)))) ≡ Finite negative e (q * 2 ^ (64 - n))
unfolding round rounded_at placed value scaled_numerator scaled_denominator
kept_number mode n negative e q n0 n1 low high =
    rw (
      abs_signed negative a,
      negative_signed negative a a0,
      ne_eqb a 0 (λ (z : a ≡ 0). omega (arith, a0)),
      named,
      scaled,
      whole_exact mode negative q (b * up e) (mul-pos b0 (up_pos e)),
      ne_eqb q (2 ^ n) (λ (z : q ≡ 2 ^ n). omega arith),
    )
  where
    a : ℕ
    a = q * 2 ^ (64 - n) * up e

    b : ℕ
    b = 2 ^ 63 * down e

    a0 : 0 < a
    a0 = mul-pos (mul-pos (lt_of_lt_of_le (pow_pos (n - 1)) low) (pow_pos (64 - n))) (up_pos e)

    b0 : 0 < b
    b0 = mul-pos (pow_pos 63) (down_pos e)

    word : 2 ^ (n - 1) * 2 ^ (64 - n) * (up e * down e) ≡ 2 ^ 63 * (up e * down e)
    word = ap (λ (m : ℕ). m * (up e * down e)) (word_parts n n0 n1)

    least : b * up e ≤ a * down e
    least = omega (arith, word, mul-le-mul_right (2 ^ (64 - n) * (up e * down e)) low)

    most : a * down e < 2 * (b * up e)
    most =
        omega (
          arith,
          word,
          ap (λ (m : ℕ). m * (2 ^ (64 - n) * (up e * down e))) (power_twice n n0),
          mul-lt-mul_of_pos_right {k = 2 ^ (64 - n) * (up e * down e)} high (mul-pos (pow_pos (64 - n)) (mul-pos (up_pos e) (down_pos e))),
        )

    named : exponent_of a b ≡ e
    named = exponent_named a b e a0 b0 least most

    scaled : a * 2 ^ (n - 1) * down e ≡ q * (b * up e)
    scaled = omega (arith, ap (λ (m : ℕ). q * m) word)
