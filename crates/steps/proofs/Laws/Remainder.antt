-- One digit and the remainder after it, over plain whole numbers: w stands for 2^32, R is the remainder's significand and H its upper half, v is the
-- reciprocal of D.
use mathlib.Core.Path.{◌≡◌, ap}
use Prim.Native.Nat.{ℕ, zero, suc, zero-le, ◌+◌, ◌*◌, ◌≤◌, ◌<◌}
use native.Mathlib.Nat.{le_of_lt, lt_of_le_of_lt, le_of_mul-le-mul_right, lt_of_mul-lt-mul_right, mul-pos, mul-le-mul, mul-le-mul_left, mul-le-mul_right, mul-lt-mul_of_pos_right}
use native.Mathlib.Omega.{arith}
use Rattle.numbers.proofs.Laws.Ratio.{gap}

-- D and R have their top bit set, H is R cut to half a word, and v × D lies in (w³ − 16 w², w³]
pub record IsDigitStep (w R H v D : ℕ) : Type 0 where
  pub wide : 128 ≤ w
  pub top : w * w ≤ 2 * R
  pub word : R < w * w
  pub low : H * w ≤ R
  pub high : R < H * w + w
  pub divisor_top : w * w ≤ 2 * D
  pub divisor_word : D < w * w
  pub under : v * D ≤ w * w * w
  pub close : w * w * w < v * D + 16 * (w * w)

module _ {w R H v D : ℕ} (is : IsDigitStep w R H v D) where
  words : 128 * 128 ≤ w * w
  words = mul-le-mul is.wide is.wide

  upper_word : H < w
  upper_word = lt_of_mul-lt-mul_right w (lt_of_le_of_lt is.low is.word)

  upper_top : w < 2 * H + 2
  upper_top = lt_of_mul-lt-mul_right w (omega (arith, is.top, is.high))

  reciprocal_low : w < v + 16
  reciprocal_low = lt_of_mul-lt-mul_right (w * w) (omega (arith, is.close, mul-le-mul_left v (le_of_lt is.divisor_word)))

  reciprocal_high : v ≤ 2 * w
  reciprocal_high = le_of_mul-le-mul_right {k = w * w} (omega (arith, is.under, mul-le-mul_left v is.divisor_top)) (omega (arith, words))

  -- the product of the reciprocal and the upper half lies between w² / 4 and 2 w²
  pub product_low : w * w ≤ 4 * (H * v)
  product_low = omega (arith, mul-le-mul reciprocal_low upper_top, mul-le-mul_right w is.wide, reciprocal_high, upper_word)

  pub product_high : H * v < 2 * (w * w)
  product_high = omega (arith, mul-le-mul reciprocal_high upper_word, reciprocal_low, is.wide)

  -- it is no more than R w² / D
  pub product_short : H * v * D ≤ R * (w * w)
  product_short = omega (arith, mul-le-mul_left H is.under, mul-le-mul_right (w * w) is.low)

  -- rounded away to m × T it misses R w² / D by less than T, on either side
  module _ (m T : ℕ) (away : H * v ≤ m * T) (unit : m * T < H * v + T) (fine : 128 * w ≤ T) where
    pub away_below : m * T * D < R * (w * w) + D * T
    away_below = omega (arith, mul-lt-mul_of_pos_right {k = D} unit (omega (arith, words, is.divisor_top)), product_short)

    pub away_above : R * (w * w) < m * T * D + D * T
    away_above =
        omega (
          arith,
          mul-lt-mul_of_pos_right {k = w * w} is.high (omega (arith, words)),
          mul-le-mul_right D away,
          mul-le-mul_left H (le_of_lt is.close),
          mul-le-mul_right (w * w) upper_word,
          mul-le-mul is.divisor_top fine,
        )

-- ---- the whole number m of units T that A is rounded to

-- m has as many bits as N, or is 2 N
pub whole_bits : (N A m T : ℕ) → N * T ≤ A → A < 2 * N * T → gap (m * T) A < T → (N ≤ m) × (m ≤ 2 * N)
whole_bits N A m T low high near =
    let least : N < m + 1 = lt_of_mul-lt-mul_right T (omega arith) in
    let most : m < 2 * N + 1 = lt_of_mul-lt-mul_right T (omega arith) in
    (omega arith, omega arith)

-- ---- in units of the digit's last bit T, K of which are W

module _ (W R D T K : ℕ) (T0 : 0 < T) (parts : K * T ≡ W) where
  -- cut short, the digit's m units times D are no more than R
  pub units_short : (m P : ℕ) → m * T ≤ P → P * D ≤ R * W → m * D ≤ R * K
  units_short m P h k = le_of_mul-le-mul_right {k = T} (omega (arith, mul-le-mul_right D h, ap (λ (n : ℕ). R * n) parts)) T0

  -- rounded away, they miss it by less than D
  pub units_near : (m : ℕ) → m * T * D < R * W + D * T → R * W < m * T * D + D * T → gap (R * K) (m * D) < D
  units_near m below above =
      let less : m * D < R * K + D = lt_of_mul-lt-mul_right T (omega (arith, ap (λ (n : ℕ). R * n) parts)) in
      let more : R * K < m * D + D = lt_of_mul-lt-mul_right T (omega (arith, ap (λ (n : ℕ). R * n) parts)) in
      omega arith

  -- R less the first product has a word's bits
  pub first_fits : (w U m high low : ℕ) → U * K ≡ w → D ≡ high * w + low → R < W → D < W → T ≤ W → gap (R * K) (m * D) < D → gap R (m * high * U) < W
  first_fits w U m high low halves whole R1 D1 T1 near =
      let most : m * high * U * K ≤ m * D = omega (arith, ap (λ (n : ℕ). m * high * n) halves, ap (λ (n : ℕ). m * n) whole) in
      let less : m * high * U < R + T = lt_of_mul-lt-mul_right K (omega arith) in
      omega arith

-- ---- Z units I are S × A × W, with S and Z below W and the top bit of S set: I lies between A W / 2 and A W²

module _ (W A I S Z : ℕ) (S0 : W ≤ 2 * S) (S1 : S < W) (Z1 : Z < W) (A0 : 0 < A) (I0 : 0 < I) (same : S * A * W ≡ Z * I) where
  pub unit_most : I < W * (A * W)
  unit_most = go Z same
    where
      top : S * (A * W) < W * (A * W)
      top = mul-lt-mul_of_pos_right {k = A * W} S1 (mul-pos A0 (lt_of_le_of_lt (zero-le {n = S}) S1))

      go : (Z : ℕ) → S * A * W ≡ Z * I → I < W * (A * W)
      go zero e = absurd (omega (arith, mul-pos (mul-pos (let l : 0 < S = omega arith in l) A0) (let l : 0 < W = omega arith in l)))
      go (suc n) e = omega (arith, top, e)

  pub unit_least : A * W < 2 * I
  unit_least = lt_of_mul-lt-mul_right W (omega (arith, mul-le-mul_right (A * W) S0, mul-lt-mul_of_pos_right {k = I} Z1 I0))
