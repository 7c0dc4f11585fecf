-- A whole number of units of the last place lies between X / d and every number of n bits. The unit is U / C, and (p − m) / f is the other number: p is on
-- the side of X / d, and m on the other side of zero.
use mathlib.Core.Path.{◌≡◌, refl, ap}
use mathlib.Core.Logic.{◌⊎◌, inl, inr}
use Prim.Native.Nat.{ℕ, zero, suc, ◌+◌, ◌-◌, ◌*◌, ◌%◌, ◌^◌, ◌≤◌, ◌<◌}
use native.Mathlib.Decide.{dec_le, dec_lt}
use native.Mathlib.Nat.{eq_of_mul-eq-mul_right, le_of_lt, le_of_mul-le-mul_right, lt_of_mul-lt-mul_right, lt_of_not-le, mul-le-mul_right, mul-pos}
use native.Mathlib.Omega.{arith}
use lib.Ieee.{up, down}
use lib.Ieee.Fits.{up_pos}
use lib.IntN.{ℤ}
use lib.Pow.{pow_pos}
use Rattle.numbers.proofs.Laws.Powers.{power_twice, IsPower, power_product, up_power, down_power, powers_divide}
use Rattle.numbers.proofs.Laws.Ratio.{gap, gap_times}

-- ---- a number of n bits, in units

-- K / f is N grids I / O, and a grid is t units, or at most half a unit
whole_units : (N t K f I O U C : ℕ) → 0 < O → K * O ≡ N * I * f → I * C ≡ t * (U * O) → K * C ≡ N * t * (U * f)
whole_units N t K f I O U C O0 size grid =
    eq_of_mul-eq-mul_right O O0 (K * C) (N * t * (U * f)) (omega (arith, ap (λ (z : ℕ). z * C) size, ap (λ (z : ℕ). N * f * z) grid))

few_units : (N P K f I O U C : ℕ) → 0 < O → K * O ≡ N * I * f → N ≤ 2 * P → 2 * (I * C) ≤ U * O → K * C ≤ P * (U * f)
few_units N P K f I O U C O0 size short grid =
    le_of_mul-le-mul_right {k = O} (omega (arith, ap (λ (z : ℕ). z * C) size, mul-le-mul_right (I * f * C) short, mul-le-mul_right (P * f) grid)) O0

-- a multiple that is not 0 is not less
multiple_reaches : (t a b : ℕ) → 0 < b → b ≡ t * a → a ≤ b
multiple_reaches zero a b b0 e = absurd (omega arith)
multiple_reaches (suc t) a b b0 e = omega arith

-- A number of n bits is a whole number of units 2^e over 2^(n − 1), or is at most 2^(n − 1) of them.
pub units_or_few : (n i o N K f : ℕ) (e : ℤ) → 1 ≤ n → N < 2 ^ n → K * 2 ^ o ≡ N * 2 ^ i * f
    → ((M : ℕ) × (K * (2 ^ (n - 1) * down e) ≡ M * (up e * f))) ⊎ (K * (2 ^ (n - 1) * down e) ≤ 2 ^ (n - 1) * (up e * f))
units_or_few n i o N K f e n0 short size = go (dec_le (U * 2 ^ o) (2 ^ i * C))
  where
    U : ℕ
    U = up e

    C : ℕ
    C = 2 ^ (n - 1) * down e

    unit0 : 0 < U * 2 ^ o
    unit0 = mul-pos (up_pos e) (pow_pos o)

    unit_power : IsPower (U * 2 ^ o)
    unit_power = power_product U (2 ^ o) (up_power e) (o, refl)

    grid_power : IsPower (2 ^ i * C)
    grid_power = power_product (2 ^ i) C (i, refl) (power_product (2 ^ (n - 1)) (down e) (n - 1, refl) (down_power e))

    go : Dec (U * 2 ^ o ≤ 2 ^ i * C) → ((M : ℕ) × (K * C ≡ M * (U * f))) ⊎ (K * C ≤ 2 ^ (n - 1) * (U * f))
    go (yes h) =
        let t = powers_divide (U * 2 ^ o) (2 ^ i * C) unit_power grid_power (omega (arith, unit0)) in
        inl (N * t.0, whole_units N t.0 K f (2 ^ i) (2 ^ o) U C (pow_pos o) size t.1)
    go (no k) =
        let h : 2 ^ i * C < U * 2 ^ o = lt_of_not-le k in
        let t = powers_divide (2 * (2 ^ i * C)) (U * 2 ^ o) (power_product 2 (2 ^ i * C) (1, refl) grid_power) unit_power (omega arith) in
        inr (few_units N (2 ^ (n - 1)) K f (2 ^ i) (2 ^ o) U C (pow_pos o) size (omega (arith, power_twice n n0))
        (multiple_reaches t.0 (2 * (2 ^ i * C)) (U * 2 ^ o) unit0 t.1))

-- ---- between a number and X / d

-- M units lie between (p − m) / f and X / d
abbrev pub Between : (X d U C p m f M : ℕ) → Type 0
Between X d U C p m f M = ((p * C ≤ M * (U * f) + m * C) × (M * (d * U) ≤ X * C)) ⊎ ((X * C ≤ M * (d * U)) × (M * (U * f) + m * C ≤ p * C))

-- so do M units that are (p − m) / f
pub between_own : (X d U C p m f M : ℕ) → p * C ≡ M * (U * f) + m * C → Between X d U C p m f M
between_own X d U C p m f M e = go (dec_le (M * (d * U)) (X * C))
  where
    go : Dec (M * (d * U) ≤ X * C) → Between X d U C p m f M
    go (yes h) = inl (omega arith, h)
    go (no k) = inr (le_of_lt (lt_of_not-le k), omega arith)

module _ (X d U C p m f M : ℕ) (d0 : 0 < d) (f0 : 0 < f) (b : Between X d U C p m f M) where
  -- where (p − m) / f is at most X / d, the M units lie above it and below X / d, and the other way round
  between_low : p * d ≤ X * f + m * d → (p * C ≤ M * (U * f) + m * C) × (M * (d * U) ≤ X * C)
  between_low h = go b
    where
      go : Between X d U C p m f M → (p * C ≤ M * (U * f) + m * C) × (M * (d * U) ≤ X * C)
      go (inl l) = l
      go (inr (k, l)) = (
        le_of_mul-le-mul_right {k = d} (omega (arith, mul-le-mul_right C h, mul-le-mul_right f k)) d0,
        le_of_mul-le-mul_right {k = f} (omega (arith, mul-le-mul_right C h, mul-le-mul_right d l)) f0,
      )

  between_high : X * f + m * d ≤ p * d → (X * C ≤ M * (d * U)) × (M * (U * f) + m * C ≤ p * C)
  between_high h = go b
    where
      go : Between X d U C p m f M → (X * C ≤ M * (d * U)) × (M * (U * f) + m * C ≤ p * C)
      go (inl (l, k)) = (
        le_of_mul-le-mul_right {k = f} (omega (arith, mul-le-mul_right C h, mul-le-mul_right d l)) f0,
        le_of_mul-le-mul_right {k = d} (omega (arith, mul-le-mul_right C h, mul-le-mul_right f k)) d0,
      )
      go (inr l) = l

  -- Y / e is w units, less than a unit from X / d: it does not pass (p − m) / f
  module _ (w Y e : ℕ) (C0 : 0 < C) (units : Y * C ≡ w * U * e) (miss : gap (w * (d * U)) (X * C) < d * U) where
    pub not_below : p * d ≤ X * f + m * d → p * e ≤ Y * f + m * e
    not_below h =
        let l = between_low h in
        let k : M < w + 1 = lt_of_mul-lt-mul_right (d * U) (omega (arith, l.1, miss)) in
        le_of_mul-le-mul_right {k = C}
        (omega (arith, ap (λ (z : ℕ). z * f) units, mul-le-mul_right e l.0, mul-le-mul_right (U * f * e) (let j : M ≤ w = omega arith in j))) C0

    pub not_above : X * f + m * d ≤ p * d → Y * f + m * e ≤ p * e
    not_above h =
        let l = between_high h in
        let k : w < M + 1 = lt_of_mul-lt-mul_right (d * U) (omega (arith, l.0, miss)) in
        le_of_mul-le-mul_right {k = C}
        (omega (arith, ap (λ (z : ℕ). z * f) units, mul-le-mul_right e l.1, mul-le-mul_right (U * f * e) (let j : w ≤ M = omega arith in j))) C0

  -- M units are no further from X / d than (p − m) / f, and where they are as far, they are (p − m) / f
  pub between_gap : gap (M * (d * U)) (X * C) * f ≤ gap (p * d) (m * d + X * f) * C
  between_gap = rw (gap_times (M * (d * U)) (X * C) f, gap_times (p * d) (m * d + X * f) C) (go b)
    where
      go : Between X d U C p m f M → gap (M * (d * U) * f) (X * C * f) ≤ gap (p * d * C) ((m * d + X * f) * C)
      go (inl (l, k)) = omega (arith, mul-le-mul_right d l, mul-le-mul_right f k)
      go (inr (k, l)) = omega (arith, mul-le-mul_right d l, mul-le-mul_right f k)

  pub between_tight : gap (p * d) (m * d + X * f) * C ≤ gap (M * (d * U)) (X * C) * f → p * C ≡ M * (U * f) + m * C
  between_tight h =
      eq_of_mul-eq-mul_right d d0 (p * C) (M * (U * f) + m * C)
      (go b (rw (gap_times (M * (d * U)) (X * C) f, gap_times (p * d) (m * d + X * f) C) at h))
    where
      go : Between X d U C p m f M → gap (p * d * C) ((m * d + X * f) * C) ≤ gap (M * (d * U) * f) (X * C * f) → p * C * d ≡ (M * (U * f) + m * C) * d
      go (inl (l, k)) h = omega (arith, mul-le-mul_right d l, mul-le-mul_right f k)
      go (inr (k, l)) h = omega (arith, mul-le-mul_right d l, mul-le-mul_right f k)

-- ---- whole numbers w and M near A / B

-- a whole number that is at most half from A / B is nearest
pub nearest_whole : (A B w M : ℕ) → 2 * gap (w * B) A ≤ B → gap (w * B) A ≤ gap (M * B) A
nearest_whole A B w M half = go (dec_lt w M) (dec_lt M w)
  where
    go : Dec (w < M) → Dec (M < w) → gap (w * B) A ≤ gap (M * B) A
    go (yes l) k = omega (arith, mul-le-mul_right B l)
    go (no j) (yes l) = omega (arith, mul-le-mul_right B l)
    go (no j) (no k) = rw (let e : w ≡ M = omega arith in e) (omega arith)

-- where another is as near, it is a half from A / B
pub nearest_half : (A B w M : ℕ) → 2 * gap (w * B) A ≤ B → gap (M * B) A ≤ gap (w * B) A → (M ≡ w → ⊥) → 2 * gap (w * B) A ≡ B
nearest_half A B w M half near other = go (dec_lt w M)
  where
    go : Dec (w < M) → 2 * gap (w * B) A ≡ B
    go (yes l) = omega (arith, mul-le-mul_right B l)
    go (no k) = omega (arith, mul-le-mul_right B (let l : M < w = omega arith in l))

-- two both even or both odd, together less than two from A / B, are one number
pub same_parity : (A B w M : ℕ) → gap (w * B) A + gap (M * B) A < 2 * B → M % 2 ≡ w % 2 → M ≡ w
same_parity A B w M near parity = go (dec_lt w M) (dec_lt M w)
  where
    go : Dec (w < M) → Dec (M < w) → M ≡ w
    go (yes l) k = absurd (omega (arith, mul-le-mul_right B (let j : w + 2 ≤ M = omega arith in j)))
    go (no j) (yes l) = absurd (omega (arith, mul-le-mul_right B (let j : M + 2 ≤ w = omega arith in j)))
    go (no j) (no k) = omega arith

-- ---- two distances from x, G / (e d) and H / (f d), of which the first is K / (d C)

-- it is at most the second, where this is at least L / (d C) and L at least K
pub units_order : (G H K L C e f d : ℕ) → 0 < C → G * C ≡ K * e → K ≤ L → L * f ≤ H * C → G * (f * d) ≤ H * (e * d)
units_order G H K L C e f d C0 units less far =
    le_of_mul-le-mul_right {k = C} (omega (arith, ap (λ (z : ℕ). z * (f * d)) units, mul-le-mul_right (e * f * d) less, mul-le-mul_right (e * d) far)) C0

-- where it is at least the second, this is at most K / (d C)
pub units_back : (G H K C e f d : ℕ) → 0 < e → 0 < d → G * C ≡ K * e → H * (e * d) ≤ G * (f * d) → H * C ≤ K * f
units_back G H K C e f d e0 d0 units less =
    le_of_mul-le-mul_right {k = e * d} (omega (arith, ap (λ (z : ℕ). z * (f * d)) units, mul-le-mul_right C less)) (mul-pos e0 d0)
