-- Near and sticky by their distance from x: near is a nearest number of n bits, the even one of two; sticky, where x has more than n
-- bits, an odd number of units less than a unit away. No other value is.
use mathlib.Core.Path.{◌≡◌, refl, sym, ap, ◌∙◌}
use mathlib.Core.Bool.{Bool, true, false, not, cond, ◌&&◌, ◌||◌, true≢false, not-eq-not}
use mathlib.Core.Logic.{◌↔◌, ◌⊎◌, inl, inr}
use Prim.Native.Nat.{ℕ, ◌+◌, ◌-◌, ◌*◌, ◌/◌, ◌%◌, ◌^◌, ◌≤◌, ◌<◌}
use native.Mathlib.Nat.{eq_of_mul-eq-mul_right, le_of_mul-le-mul_right, le_trans, lt_of_le_of_lt, lt_of_mul-lt-mul_right, div-add-mod', mod-lt, mul_assoc, mul-le-mul_right, mul-pos, pos_of_ne-zero}
use native.Mathlib.Omega.{arith}
use borrow.Author.Tests.{eqb-true, eqb-false}
use lib.Dec.{T, ltb, eqb, ltb→lt}
use lib.Ieee.{down}
use lib.Ieee.Fits.{up_pos}
use lib.IntN.{pos, nat_abs}
use Rattle.numbers.specs.Fraction.{Fraction, IsFraction, Equal, AtMost, Below, is_equal, value, is_negative, difference, magnitude, times}
use Rattle.numbers.specs.Grid.{unit_of}
use Rattle.numbers.specs.Rounding.{scaled_numerator, scaled_denominator, goes_up, whole_of, round, has_at_most_bits}
use Rattle.numbers.specs.declared.task.Mode.{Mode}
use Rattle.numbers.specs.declared.task.Mode.TheVariants.{Near, Sticky}
use Rattle.numbers.proofs.Laws.Scaled.{value_fraction}
use Rattle.numbers.proofs.Laws.Pairs.{equal_back, equal_through, equal_at_most}
use Rattle.numbers.proofs.Laws.Bounds.{miss_below_unit, kept}
use Rattle.numbers.proofs.Laws.Fractions.{equal_test, equal_passes}
use Rattle.numbers.proofs.Laws.Misses.{whole_near, whole_sticky}
use Rattle.numbers.proofs.Laws.Ratio.{gap, ratio_gap}
use Rattle.numbers.proofs.Laws.Rounded.{exponent, numerator_at, denominator_at, whole, round_units, round_ratio, miss}
use Rattle.numbers.proofs.Laws.Alike.{own_sign}
use Rattle.meaning.specs.Meaning.{HasBits, distance, IsUnitsOf, IsNear, IsSticky}
use Rattle.meaning.proofs.Between.{size, unit_numerator, unit_denominator, IsBetween, apart, denominator0, unit0, side_between, whole_apart, round_bits, round_sign, bits_mean}
use Rattle.meaning.proofs.Neighbours.{between_own, between_gap, between_tight, nearest_whole, nearest_half, same_parity, units_order, units_back}
use Rattle.meaning.proofs.Sides.{along, OneSide, one_side, side_equal, side_distance, size_order, at_most_both}

-- where near misses by a half, it is even
whole_tie : (a b : ℕ) → 0 < b → (s : Bool) → 2 * gap (whole_of Near s a b * b) a ≡ b → whole_of Near s a b % 2 ≡ 0
unfolding whole_of goes_up
whole_tie a b b0 s =
    go (ltb b (2 * (a % b))) (eqb (2 * (a % b)) b) (eqb (a / b % 2) 1) (ltb→lt b (2 * (a % b))) (eqb-false (2 * (a % b)) b) (eqb-true (a / b % 2) 1)
    (eqb-false (a / b % 2) 1)
  where
    parts : a / b * b + a % b ≡ a
    parts = div-add-mod' a b

    go : (more half odd : Bool) → (T more → b < 2 * (a % b)) → (half ≡ false → 2 * (a % b) ≡ b → ⊥) → (odd ≡ true → a / b % 2 ≡ 1)
        → (odd ≡ false → a / b % 2 ≡ 1 → ⊥)
        → 2 * gap ((a / b + cond (more || (half && odd)) 1 0) * b) a ≡ b → (a / b + cond (more || (half && odd)) 1 0) % 2 ≡ 0
    go true half odd h k e f tie = absurd (omega (arith, parts, mod-lt a b0, h tt))
    go false true true h k e f tie = let j : a / b % 2 ≡ 1 = e refl in omega arith
    go false true false h k e f tie = let j : ¬ (a / b % 2 ≡ 1) = f refl in omega arith
    go false false odd h k e f tie = absurd (k refl (omega (arith, parts, mod-lt a b0)))

-- v is M units, with the sign of x
abbrev InUnits : (n : ℕ) (x v : Fraction) (M : ℕ) → Type 0
InUnits n x v M =
    let s = is_negative x.numerator in
    along s v.numerator * unit_denominator n x ≡ M * (unit_numerator x * v.denominator) + along (not s) v.numerator * unit_denominator n x

module _ (n : ℕ) (x : Fraction) (x0 : IsFraction x) (n0 : 1 ≤ n) (n1 : n ≤ 64) where
  -- ---- so many units

  -- y is k units, by its magnitude
  units_of : (y : Fraction) (k : ℕ) → IsUnitsOf n x y k ↔ (size y * unit_denominator n x ≡ unit_numerator x * k * y.denominator)
  unfolding IsUnitsOf Equal magnitude times unit_of
  units_of y k = (λ h. ap nat_abs h, λ h. ap pos h)

  -- a rounding is as many as its whole number
  rounded_units : (mode : Mode) (k : ℕ) → whole mode n x ≡ k → IsUnitsOf n x (value (round mode n x)) k
  rounded_units mode k e =
      let y = value (round mode n x) in
      (units_of y k).1 ((round_units mode n x x0 n0 n1).ratio ∙ ap (λ (z : ℕ). z * unit_numerator x * y.denominator) e ∙ omega arith)

  -- as many units as the rounding are the rounding
  equal_units : (mode : Mode) (v : Fraction) (M : ℕ) → InUnits n x v M → M ≡ whole mode n x → Equal v (value (round mode n x))
  equal_units mode v M u e =
      let y = value (round mode n x) in
      (side_equal (is_negative x.numerator) y v (round_sign mode n x x0 n0 n1)).1
      (eq_of_mul-eq-mul_right (unit_denominator n x) (unit0 n x x0 n0) _ _
      (omega (
        arith,
        ap (λ (z : ℕ). z * y.denominator) u,
        ap (λ (z : ℕ). z * (unit_numerator x * v.denominator * y.denominator)) e,
        ap (λ (z : ℕ). z * v.denominator) (round_units mode n x x0 n0 n1).ratio,
      )))

  -- k units by the magnitude and M with the sign of x: they are the same number, or M is 0
  units_whole : (v : Fraction) (M k : ℕ) → IsFraction v → InUnits n x v M → IsUnitsOf n x v k → (M ≡ k) ⊎ (M ≡ 0)
  units_whole v M k v0 u h = go (one_side s v.numerator)
    where
      s : Bool
      s = is_negative x.numerator

      unit : ℕ
      unit = unit_numerator x * v.denominator

      some : 0 < unit
      some = mul-pos (up_pos (exponent x)) v0

      go : OneSide s v.numerator → (M ≡ k) ⊎ (M ≡ 0)
      go (inl (p, m)) =
          inl (eq_of_mul-eq-mul_right unit some M k
          (omega (arith, u, (units_of v k).0 h, ap (λ (z : ℕ). z * unit_denominator n x) p, ap (λ (z : ℕ). z * unit_denominator n x) m)))
      go (inr (p, m)) = inr (eq_of_mul-eq-mul_right unit some M 0 (omega (arith, u, ap (λ (z : ℕ). z * unit_denominator n x) p)))

  -- a whole number of units between x and v is no further from x than v
  between_apart : (v : Fraction) (M : ℕ) → IsFraction v
      → IsBetween n x v (along (is_negative x.numerator) v.numerator) (along (not (is_negative x.numerator)) v.numerator) M
      → apart n x M * v.denominator ≤ size (difference v x) * unit_denominator n x
  between_apart v M v0 b =
      let s = is_negative x.numerator in
      rw (side_distance s x v (own_sign x))
      (between_gap (size x) x.denominator (unit_numerator x) (unit_denominator n x) (along s v.numerator) (along (not s) v.numerator) v.denominator M x0 v0 b)

  -- ---- near

  -- how far it is from x: at most half a unit, and where it is half a unit, the whole number is even
  near_apart : size (difference (value (round Near n x)) x) * unit_denominator n x ≡ apart n x (whole Near n x) * (value (round Near n x)).denominator
  unfolding scaled_numerator scaled_denominator
  near_apart = rw (miss Near n x x0 n0 n1, ← mul_assoc (size x) (2 ^ (n - 1)) (down (exponent x))) (ratio_gap (round_ratio Near n x x0 n0 n1))

  half_apart : 2 * apart n x (whole Near n x) ≤ x.denominator * unit_numerator x
  unfolding scaled_numerator scaled_denominator
  half_apart = rw (← mul_assoc (size x) (2 ^ (n - 1)) (down (exponent x))) (whole_near (numerator_at n x) (denominator_at x) (denominator0 n x x0 n0) (is_negative x.numerator))

  half_even : 2 * apart n x (whole Near n x) ≡ x.denominator * unit_numerator x → whole Near n x % 2 ≡ 0
  unfolding scaled_numerator scaled_denominator
  half_even e =
      whole_tie (numerator_at n x) (denominator_at x) (denominator0 n x x0 n0) (is_negative x.numerator) (rw (← mul_assoc (size x) (2 ^ (n - 1)) (down (exponent x))) at e)

  -- a number v of n bits, and a whole number of units between x and v
  module _ (v : Fraction) (h : HasBits n v) where
    middle : ℕ
    middle = (side_between n x x0 n0 (is_negative x.numerator) v h).0

    -- near is as near as that or nearer, and that as near as v or nearer
    middle_near : apart n x (whole Near n x) ≤ apart n x middle
    middle_near = nearest_whole (size x * unit_denominator n x) (x.denominator * unit_numerator x) (whole Near n x) middle half_apart

    middle_apart : apart n x middle * v.denominator ≤ size (difference v x) * unit_denominator n x
    unfolding middle
    middle_apart = between_apart v middle h.amount.positive (side_between n x x0 n0 (is_negative x.numerator) v h).1

    near_nearest : AtMost (distance (value (round Near n x)) x) (distance v x)
    unfolding distance difference
    near_nearest =
        let y = value (round Near n x) in
        (size_order (difference y x) (difference v x)).1
        (units_order (size (difference y x)) (size (difference v x)) (apart n x (whole Near n x)) (apart n x middle) (unit_denominator n x) y.denominator
        v.denominator x.denominator (unit0 n x x0 n0) near_apart middle_near middle_apart)

    -- so where v is as near as near, it is that whole number of units
    as_near : size (difference v x) * unit_denominator n x ≤ apart n x (whole Near n x) * v.denominator
        → InUnits n x v middle × (apart n x middle ≤ apart n x (whole Near n x))
    unfolding middle
    as_near l =
        let s = is_negative x.numerator in (
          between_tight (size x) x.denominator (unit_numerator x) (unit_denominator n x) (along s v.numerator) (along (not s) v.numerator) v.denominator middle
              x0 h.amount.positive (side_between n x x0 n0 s v h).1
              (le_trans (rw (side_distance s x v (own_sign x)) at l) (mul-le-mul_right v.denominator middle_near)),
          le_of_mul-le-mul_right {k = v.denominator} (le_trans middle_apart l) h.amount.positive,
        )

    near_too : AtMost (distance v x) (distance (value (round Near n x)) x) → InUnits n x v middle × (apart n x middle ≤ apart n x (whole Near n x))
    unfolding distance difference
    near_too l =
        let y = value (round Near n x) in
        as_near
        (units_back (size (difference y x)) (size (difference v x)) (apart n x (whole Near n x)) (unit_denominator n x) y.denominator v.denominator
        x.denominator (value_fraction (round Near n x)) x0 near_apart ((size_order (difference v x) (difference y x)).0 l))

    -- and where it is not near itself, near is an even number of units
    even_whole : AtMost (distance v x) (distance (value (round Near n x)) x) → (Equal v (value (round Near n x)) → ⊥) → whole Near n x % 2 ≡ 0
    even_whole l other =
        let k = near_too l in
        half_even
        (nearest_half (size x * unit_denominator n x) (x.denominator * unit_numerator x) (whole Near n x) middle half_apart k.1
        (λ (e : middle ≡ whole Near n x). other (equal_units Near v middle k.0 e)))

  -- Near has the meaning of its mode, and no other value has it.
  pub near_means : IsNear n x (value (round Near n x))
  near_means = record {
    bits = round_bits Near n x x0 n0 n1;
    nearest = near_nearest;
    even = λ v h e other.
        let two : whole Near n x % 2 ≡ 0 = even_whole v h (equal_at_most (distance v x) (distance (value (round Near n x)) x) e) other in
        (whole Near n x / 2, rounded_units Near (2 * (whole Near n x / 2)) (omega arith));
  }

  -- if a nearest y were not the rounding, both would be even numbers of units at half a unit from x, and so equal
  near_even : (y : Fraction) (h : IsNear n x y) → (Equal y (value (round Near n x)) → ⊥) → middle y h.bits % 2 ≡ 0
  near_even y h other =
      let r = value (round Near n x) in
      let back = h.nearest r (round_bits Near n x x0 n0 n1) in
      let same = at_most_both (distance r x) (distance y x) (near_nearest y h.bits) back in
      let k = h.even r (round_bits Near n x x0 n0 n1) same (λ (e : Equal r y). other (equal_back r y e)) in
      pick k.0 (units_whole y (middle y h.bits) (2 * k.0) h.bits.amount.positive (near_too y h.bits back).0 k.1)
    where
      pick : (k : ℕ) → (middle y h.bits ≡ 2 * k) ⊎ (middle y h.bits ≡ 0) → middle y h.bits % 2 ≡ 0
      pick k (inl e) = omega arith
      pick k (inr e) = omega arith

  pub near_one : (y : Fraction) → IsNear n x y → Equal y (value (round Near n x))
  near_one y h = go (is_equal y r) refl
    where
      r : Fraction
      r = value (round Near n x)

      back : AtMost (distance y x) (distance r x)
      back = h.nearest r (round_bits Near n x x0 n0 n1)

      go : (b : Bool) → is_equal y r ≡ b → Equal y r
      go true e = equal_test y r e
      go false e =
          let other : Equal y r → ⊥ = (λ (q : Equal y r). true≢false (sym (equal_passes y r q) ∙ e)) in
          let k = near_too y h.bits back in
          equal_units Near y (middle y h.bits) k.0
          (same_parity (size x * unit_denominator n x) (x.denominator * unit_numerator x) (whole Near n x) (middle y h.bits)
          (omega (arith, half_apart, k.1, denominator0 n x x0 n0)) (near_even y h other ∙ sym (even_whole y h.bits back other)))

  -- ---- sticky

  -- an odd number of units where x has more than n bits
  odd_whole : has_at_most_bits n (size x) x.denominator ≡ false → whole Sticky n x % 2 ≡ 1
  unfolding has_at_most_bits scaled_denominator
  odd_whole h = whole_sticky (numerator_at n x) (denominator_at x) (denominator0 n x x0 n0) (is_negative x.numerator) (pos_of_ne-zero (eqb-false (numerator_at n x % denominator_at x) 0 h))

  -- Sticky has the meaning of its mode, and no other value has it.
  pub sticky_means : IsSticky n x (value (round Sticky n x))
  unfolding distance
  sticky_means = record {
    bits = round_bits Sticky n x x0 n0 n1;
    kept = λ h. kept x n x0 n0 n1 Sticky ((bits_mean n x x0 n0 n1).0 h);
    odd = λ none.
        let w = whole Sticky n x in
        let one : w % 2 ≡ 1 = odd_whole ((not-eq-not {b = false}).0 (λ e. none ((bits_mean n x x0 n0 n1).1 e))) in
        (miss_below_unit x n x0 n0 n1 Sticky, (w / 2, rounded_units Sticky (2 * (w / 2) + 1) (omega arith)));
  }

  -- less than a unit from x, in naturals
  below_unit : (y : Fraction) → Below (distance y x) (unit_of n x) → size (difference y x) * unit_denominator n x < unit_numerator x * (y.denominator * x.denominator)
  unfolding Below distance magnitude unit_of difference
  below_unit y l = ltb→lt _ _ l.lt

  -- an odd number of units less than a unit from x is the rounding
  odd_one : (y : Fraction) (k : ℕ) → IsFraction y → whole Sticky n x % 2 ≡ 1 → Below (distance y x) (unit_of n x) → IsUnitsOf n x y (2 * k + 1)
      → Equal y (value (round Sticky n x))
  odd_one y k y0 odd l u = go (one_side s y.numerator)
    where
      s : Bool
      s = is_negative x.numerator

      p : ℕ
      p = along s y.numerator

      m : ℕ
      m = along (not s) y.numerator

      close : gap (p * x.denominator) (m * x.denominator + size x * y.denominator) * unit_denominator n x < unit_numerator x * (y.denominator * x.denominator)
      close = rw (side_distance s x y (own_sign x)) at (below_unit y l)

      units : size y * unit_denominator n x ≡ unit_numerator x * (2 * k + 1) * y.denominator
      units = (units_of y (2 * k + 1)).0 u

      go : OneSide s y.numerator → Equal y (value (round Sticky n x))
      go (inl (e, z)) =
          let A = size x * unit_denominator n x in
          let B = x.denominator * unit_numerator x in
          let own : InUnits n x y (2 * k + 1) = omega (arith, units, ap (λ (i : ℕ). i * unit_denominator n x) e, ap (λ (i : ℕ). i * unit_denominator n x) z) in
          let own-between = between_own (size x) x.denominator (unit_numerator x) (unit_denominator n x) p m y.denominator (2 * k + 1) own in
          let far = between_apart y (2 * k + 1) y0 own-between in
          let near : apart n x (2 * k + 1) < B = lt_of_mul-lt-mul_right y.denominator (lt_of_le_of_lt far (omega (arith, below_unit y l))) in
          equal_units Sticky y (2 * k + 1) own
          (same_parity A B (whole Sticky n x) (2 * k + 1) (omega (arith, whole_apart Sticky n x x0 n0 n1, near)) (omega arith))
      go (inr (e, z)) =
          let none : p * x.denominator ≡ 0 = ap (λ (i : ℕ). i * x.denominator) e ∙ omega arith in
          let far : m * x.denominator ≤ gap (p * x.denominator) (m * x.denominator + size x * y.denominator) = omega arith in
          absurd (omega (
            arith,
            close,
            mul-le-mul_right (unit_denominator n x) far,
            ap (λ (i : ℕ). i * (unit_denominator n x * x.denominator)) z,
            ap (λ (i : ℕ). i * x.denominator) units,
          ))

  pub sticky_one : (y : Fraction) → IsSticky n x y → Equal y (value (round Sticky n x))
  sticky_one y h = go (has_at_most_bits n (size x) x.denominator) refl
    where
      r : Fraction
      r = value (round Sticky n x)

      go : (b : Bool) → has_at_most_bits n (size x) x.denominator ≡ b → Equal y r
      go true e =
          equal_through y x r x0 (h.kept ((bits_mean n x x0 n0 n1).1 e))
          (equal_back r x (kept x n x0 n0 n1 Sticky e))
      go false e =
          let o = h.odd (λ (b : HasBits n x). true≢false (sym ((bits_mean n x x0 n0 n1).0 b) ∙ e)) in
          odd_one y o.1.0 h.bits.amount.positive (odd_whole e) o.0 o.1.1
