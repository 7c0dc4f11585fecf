-- Numbers of n bits and the rounding of x to n bits: the rounding is such a number, and none lies strictly between it and x, since a whole number of units of
-- the last place lies between x and each of them.
use mathlib.Core.Path.{◌≡◌, refl, sym, ap, ◌∙◌}
use mathlib.Core.Bool.{Bool, true, not}
use mathlib.Core.Logic.{◌↔◌, ◌⊎◌, inl, inr}
use Prim.Native.Nat.{ℕ, zero, suc, ◌+◌, ◌-◌, ◌*◌, ◌%◌, ◌^◌, ◌≤◌, ◌<◌}
use native.Mathlib.Decide.{dec_lt}
use native.Mathlib.Nat.{lt_of_mul-lt-mul_right, mul_assoc, mul-pos, zero-mod}
use native.Mathlib.Omega.{arith}
use borrow.Author.Tests.{eq-eqb}
use lib.Dec.{lt→ltb}
use lib.Ieee.{up, down}
use lib.Ieee.Fits.{up_pos, down_pos}
use lib.IntN.{nat_abs}
use lib.Pow.{pow-add, pow_pos}
use lib.Signed.{lt_z_yes}
use Rattle.numbers.specs.Grid.{unit_of}
use Rattle.numbers.specs.Fraction.{Below, times, Fraction, IsFraction, Equal, AtMost, HasSign, scaled, value, is_negative, magnitude, IsScaled}
use Rattle.numbers.specs.Rounding.{scaled_numerator, scaled_denominator, round, has_at_most_bits}
use Rattle.numbers.specs.declared.task.Mode.{Mode}
use Rattle.numbers.specs.declared.task.Mode.TheVariants.{Trunc}
use Rattle.numbers.proofs.Laws.Pairs.{equal_back, equal_through}
use Rattle.numbers.proofs.Laws.Bits.{bits_of_is}
use Rattle.numbers.proofs.Laws.Bounds.{kept}
use Rattle.numbers.proofs.Laws.Fits.{scaled_low, scaled_high}
use Rattle.numbers.proofs.Laws.Misses.{whole_miss}
use Rattle.numbers.proofs.Laws.Powers.{up_power, down_power, below_power}
use Rattle.numbers.proofs.Laws.Ratio.{gap}
use Rattle.numbers.proofs.Laws.Rounded.{exponent, numerator_at, denominator_at, whole, round_units}
use Rattle.numbers.proofs.Laws.Scaled.{signed_scaled, scaled_size, value_fraction}
use Rattle.numbers.proofs.Laws.Alike.{own_sign}
use Rattle.meaning.specs.Meaning.{HasBits}
use Rattle.meaning.proofs.Neighbours.{units_or_few, Between, between_own, not_below, not_above}
use Rattle.meaning.proofs.Sides.{along, OneSide, one_side, side_above, side_below, size_order, ordered_by}

-- a fraction that has the value of a number of n bits is one
pub equal_bits : {n : ℕ} (x y : Fraction) → IsFraction x → Equal x y → HasBits n y → HasBits n x
equal_bits x y x0 e h =
    let z = scaled h.negative h.whole h.i h.o in
    record {
      negative = h.negative;
      whole = h.whole;
      i = h.i;
      o = h.o;
      short = h.short;
      amount = record { positive = x0; amount = equal_through x y z h.amount.positive e h.amount.amount };
    }

-- ---- the terms

-- the magnitude of x is `size` over its denominator, and the unit of the last of n bits `unit_numerator` over `unit_denominator`
abbrev pub size : Fraction → ℕ
size x = nat_abs x.numerator

abbrev pub unit_numerator : Fraction → ℕ
unit_numerator x = up (exponent x)

abbrev pub unit_denominator : ℕ → Fraction → ℕ
unit_denominator n x = 2 ^ (n - 1) * down (exponent x)

-- M units lie between x and (p − m) over the denominator of v
abbrev pub IsBetween : (n : ℕ) (x v : Fraction) (p m M : ℕ) → Type 0
IsBetween n x v p m M = Between (size x) x.denominator (unit_numerator x) (unit_denominator n x) p m v.denominator M

-- how far M units are from x, over the same denominators
abbrev pub apart : (n : ℕ) (x : Fraction) (M : ℕ) → ℕ
apart n x M = gap (M * (x.denominator * unit_numerator x)) (size x * unit_denominator n x)

-- ---- x, and a number of n bits

module _ (n : ℕ) (x : Fraction) (x0 : IsFraction x) (n0 : 1 ≤ n) where
  pub denominator0 : 0 < x.denominator * unit_numerator x
  denominator0 = mul-pos x0 (up_pos (exponent x))

  pub unit0 : 0 < unit_denominator n x
  unit0 = mul-pos (pow_pos (n - 1)) (down_pos (exponent x))

  -- x is at least 2^(n − 1) units, and less than 2^n
  least : 0 < size x → 2 ^ (n - 1) * (x.denominator * unit_numerator x) ≤ size x * unit_denominator n x
  unfolding scaled_numerator scaled_denominator
  least some = rw (← mul_assoc (size x) (2 ^ (n - 1)) (down (exponent x))) (scaled_low (size x) x.denominator n some x0 n0)

  most : size x * unit_denominator n x < 2 ^ n * (x.denominator * unit_numerator x)
  unfolding scaled_numerator scaled_denominator
  most = go (size x) refl
    where
      go : (a : ℕ) → size x ≡ a → size x * unit_denominator n x < 2 ^ n * (x.denominator * unit_numerator x)
      go zero e = omega (arith, ap (λ (z : ℕ). z * unit_denominator n x) e, mul-pos (pow_pos n) denominator0)
      go (suc a) e = rw (← mul_assoc (size x) (2 ^ (n - 1)) (down (exponent x))) (scaled_high (size x) x.denominator n (omega arith) x0 n0)

  pub unit_most : Below (magnitude x) (times (2 ^ n) (unit_of n x))
  unfolding Below magnitude times unit_of
  unit_most = lt_z_yes (lt→ltb (size x * unit_denominator n x) (unit_numerator x * 2 ^ n * x.denominator) (omega (arith, most)))

  -- the whole number of units that lies between: for the magnitude of v, and for v on the side of the sign s
  size_between : (v : Fraction) → HasBits n v → (M : ℕ) × IsBetween n x v (size v) 0 M
  size_between v h = go (size x) refl
    where
      pick : (((M : ℕ) × (size v * unit_denominator n x ≡ M * (unit_numerator x * v.denominator))) ⊎ (size v * unit_denominator n x ≤ 2 ^ (n - 1) * (unit_numerator x * v.denominator)))
          → 0 < size x → (M : ℕ) × IsBetween n x v (size v) 0 M
      pick (inl (M, e)) some = (M, between_own (size x) x.denominator (unit_numerator x) (unit_denominator n x) (size v) 0 v.denominator M (omega arith))
      pick (inr l) some = (2 ^ (n - 1), inl (omega arith, least some))

      go : (a : ℕ) → size x ≡ a → (M : ℕ) × IsBetween n x v (size v) 0 M
      go zero e = (0, inr (omega (arith, ap (λ (z : ℕ). z * unit_denominator n x) e), omega arith))
      go (suc a) e =
          pick (units_or_few n h.i h.o h.whole (size v) v.denominator (exponent x) n0 h.short (scaled_size h.amount)) (omega arith)

  pub side_between : (s : Bool) (v : Fraction) → HasBits n v → (M : ℕ) × IsBetween n x v (along s v.numerator) (along (not s) v.numerator) M
  side_between s v h = go (one_side s v.numerator)
    where
      go : OneSide s v.numerator → (M : ℕ) × IsBetween n x v (along s v.numerator) (along (not s) v.numerator) M
      go (inl (p, m)) = rw (p, m) (size_between v h)
      go (inr (p, m)) = (0, inl (omega (arith, ap (λ (z : ℕ). z * unit_denominator n x) p), omega arith))

-- ---- the rounding of x

module _ (mode : Mode) (n : ℕ) (x : Fraction) (x0 : IsFraction x) (n0 : 1 ≤ n) (n1 : n ≤ 64) where
  -- it is less than a unit from x, and at most 2^n units
  pub whole_apart : apart n x (whole mode n x) < x.denominator * unit_numerator x
  unfolding scaled_numerator scaled_denominator
  whole_apart =
      rw (← mul_assoc (size x) (2 ^ (n - 1)) (down (exponent x))) (whole_miss (numerator_at n x) (denominator_at x) (denominator0 n x x0 n0) mode (is_negative x.numerator))

  whole_most : whole mode n x < 2 ^ n + 1
  whole_most = lt_of_mul-lt-mul_right (x.denominator * unit_numerator x) (omega (arith, whole_apart, most n x x0 n0))

  -- A rounding is a number of n bits.
  pub round_bits : HasBits n (value (round mode n x))
  round_bits = go (dec_lt (whole mode n x) (2 ^ n))
    where
      y : Fraction
      y = value (round mode n x)

      i : ℕ
      i = (up_power (exponent x)).0

      j : ℕ
      j = (down_power (exponent x)).0

      amount : (N k : ℕ) → whole mode n x * 2 ^ i ≡ N * 2 ^ k → size y * 2 ^ (n - 1 + j) ≡ N * 2 ^ k * y.denominator
      amount N k e =
          ap (λ (z : ℕ). size y * z) (pow-add 2 (n - 1) j ∙ ap (λ (z : ℕ). 2 ^ (n - 1) * z) (sym (down_power (exponent x)).1))
          ∙ (round_units mode n x x0 n0 n1).ratio
          ∙ ap (λ (z : ℕ). z * y.denominator) (ap (λ (z : ℕ). whole mode n x * z) (up_power (exponent x)).1 ∙ e)

      bits : (N k : ℕ) → N < 2 ^ n → whole mode n x * 2 ^ i ≡ N * 2 ^ k → HasBits n y
      bits N k short e =
          let s = is_negative x.numerator in
          let h : IsScaled y s N k (n - 1 + j) = signed_scaled (value_fraction (round mode n x)) (round_units mode n x x0 n0 n1).sign (amount N k e) in
          record { negative = s; whole = N; i = k; o = n - 1 + j; short = short; amount = h }

      go : Dec (whole mode n x < 2 ^ n) → HasBits n y
      go (yes h) = bits (whole mode n x) i h refl
      go (no k) =
          bits 1 (n + i) (omega (arith, below_power n))
          (ap (λ (z : ℕ). z * 2 ^ i) (let e : whole mode n x ≡ 2 ^ n = omega (arith, whole_most) in e) ∙ omega (arith, pow-add 2 n i))

  pub round_sign : HasSign (is_negative x.numerator) (value (round mode n x))
  round_sign = (round_units mode n x x0 n0 n1).sign

  -- It does not pass p − m over the denominator of v, where M units lie between x and that.
  passed : (v : Fraction) (p m M : ℕ) → IsFraction v → IsBetween n x v p m M
      → (p * x.denominator ≤ size x * v.denominator + m * x.denominator
      → p * (value (round mode n x)).denominator ≤ size (value (round mode n x)) * v.denominator + m * (value (round mode n x)).denominator)
      × (size x * v.denominator + m * x.denominator ≤ p * x.denominator
      → size (value (round mode n x)) * v.denominator + m * (value (round mode n x)).denominator ≤ p * (value (round mode n x)).denominator)
  passed v p m M v0 b = (
    not_below (size x) x.denominator (unit_numerator x) (unit_denominator n x) p m v.denominator M x0 v0 b (whole mode n x) (size (value (round mode n x)))
        (value (round mode n x)).denominator (unit0 n x x0 n0) (round_units mode n x x0 n0 n1).ratio whole_apart,
    not_above (size x) x.denominator (unit_numerator x) (unit_denominator n x) p m v.denominator M x0 v0 b (whole mode n x) (size (value (round mode n x)))
        (value (round mode n x)).denominator (unit0 n x x0 n0) (round_units mode n x x0 n0 n1).ratio whole_apart,
  )

  module _ (v : Fraction) (h : HasBits n v) where
    -- A number of n bits whose magnitude is at most that of x has at most that of the rounding, and one that has at least that of x has at least that of
    -- the rounding.
    pub size_above : AtMost (magnitude v) (magnitude x) → AtMost (magnitude v) (magnitude (value (round mode n x)))
    size_above l =
        let b = size_between n x x0 n0 v h in
        let k = (size_order v x).0 l in
        (size_order v (value (round mode n x))).1 (omega (arith, (passed v (size v) 0 b.0 h.amount.positive b.1).0 (omega arith)))

    pub size_below : AtMost (magnitude x) (magnitude v) → AtMost (magnitude (value (round mode n x))) (magnitude v)
    size_below l =
        let b = size_between n x x0 n0 v h in
        let k = (size_order x v).0 l in
        (size_order (value (round mode n x)) v).1 (omega (arith, (passed v (size v) 0 b.0 h.amount.positive b.1).1 (omega arith)))

    -- And so with signs: what is at most x is at most the rounding, and what is at least x is at least the rounding.
    pub value_above : AtMost v x → AtMost v (value (round mode n x))
    value_above l =
        let s = is_negative x.numerator in
        let b = side_between n x x0 n0 s v h in
        let k = passed v (along s v.numerator) (along (not s) v.numerator) b.0 h.amount.positive b.1 in
        (side_below s (value (round mode n x)) v round_sign).1 (ordered_by s k.0 k.1 ((side_below s x v (own_sign x)).0 l))

    pub value_below : AtMost x v → AtMost (value (round mode n x)) v
    value_below l =
        let s = is_negative x.numerator in
        let b = side_between n x x0 n0 s v h in
        let k = passed v (along s v.numerator) (along (not s) v.numerator) b.0 h.amount.positive b.1 in
        (side_above s (value (round mode n x)) v round_sign).1 (ordered_by s k.1 k.0 ((side_above s x v (own_sign x)).0 l))

-- ---- the test of an exact claim

module _ (n : ℕ) (x : Fraction) (x0 : IsFraction x) (n0 : 1 ≤ n) (n1 : n ≤ 64) where
  tested : HasBits n x → has_at_most_bits n (size x) x.denominator ≡ true
  unfolding has_at_most_bits scaled_numerator
  tested h = go (size x) refl
    where
      go : (a : ℕ) → size x ≡ a → has_at_most_bits n (size x) x.denominator ≡ true
      go zero e =
          let none : numerator_at n x ≡ 0 = omega (arith, ap (λ (z : ℕ). z * unit_denominator n x) e) in
          eq-eqb (numerator_at n x % denominator_at x) 0 (ap (λ (z : ℕ). z % denominator_at x) none ∙ zero-mod (denominator_at x))
      go (suc a) e =
          bits_of_is n (size x) x.denominator h.whole h.i h.o n0 (omega arith) x0 h.short (scaled_size h.amount ∙ omega arith)

  -- It passes exactly for the numbers of n bits.
  pub bits_mean : HasBits n x ↔ (has_at_most_bits n (size x) x.denominator ≡ true)
  bits_mean = (tested, λ h. let y = value (round Trunc n x) in equal_bits x y x0 (equal_back y x (kept x n x0 n0 n1 Trunc h)) (round_bits Trunc n x x0 n0 n1))
