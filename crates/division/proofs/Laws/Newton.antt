-- A Newton step of the reciprocal, in whole numbers. w stands for 2^32, so that no numeral grows long. Where the divisor is D / w², the rounded divisor
-- is DR / w, a reciprocal is x / w, t is y / w and c(t) is z / w. So x × D is near w³.
use Rattle.std.proofs.Common.{◌≡◌, ℕ, ◌+◌, ◌-◌, ◌*◌, ◌^◌, ◌<◌, ◌≤◌, ap, le_of_lt, mul-le-mul_right, mul-le-mul, lt_of_mul-lt-mul_right, mul-le-mul_left, mul-pos, le_of_mul-le-mul_right, arith}
use native.Mathlib.Decide.{dec_le}
use Rattle.numbers.proofs.Laws.Ratio.{gap}

-- x misses by at most the seed's error, 3 / 512
pub record IsNear (w D DR x : ℕ) : Type 0 where
  pub half_word : w ≡ 2 ^ 32
  pub top : w * w ≤ 2 * D
  pub word : D < w * w
  pub divisor_above : D ≤ DR * w
  pub divisor_near : DR * w < D + w
  pub most : x ≤ 2 * w
  pub close : 512 * gap (x * D) (w * w * w) ≤ 3 * (w * w * w)

-- y is x × DR rounded away, and z its complement
pub record IsTurned (w DR x y z : ℕ) : Type 0 where
  pub product_above : x * DR ≤ y * w
  pub product_near : y * w < x * DR + 2 * w
  pub complement : y + 2 + z ≡ 2 * w

-- the next reciprocal x1 is x × z rounded down
pub record IsNext (w x z x1 : ℕ) : Type 0 where
  pub below : x1 * w ≤ x * z
  pub near : x * z < x1 * w + 2 * w

-- u / W and u1 / W are the two reciprocals times the divisor: the second is at most 1, and misses by the square of what the first misses by and by a few v
pub record IsCloser (W v u u1 : ℕ) : Type 0 where
  pub under : u1 ≤ W
  pub squared : W * W ≤ u1 * W + gap u W * gap u W + 8 * v * W + 6 * v * gap u W

-- ---- the sizes of the whole numbers

module _ (w D DR x : ℕ) (n : IsNear w D DR x) where
  above : 512 * (x * D) ≤ 515 * (w * w * w)
  above = omega (arith, n.close)

  below : 509 * (w * w * w) ≤ 512 * (x * D)
  below = omega (arith, n.close)

  cube : 2 ^ 32 * (w * w) ≡ w * w * w
  cube = omega (arith, ap (λ (m : ℕ). m * (w * w)) n.half_word)

  product_most : 512 * (x * DR * w) ≤ 516 * (w * w * w)
  product_most = omega (arith, above, cube, mul-le-mul_left x (le_of_lt n.divisor_near), mul-le-mul_right w n.most)

  -- x × DR has 64 or 65 bits
  pub product_top : w * w ≤ 2 * (x * DR)
  product_top = le_of_mul-le-mul_right {k = w} (omega (arith, below, mul-le-mul_left x n.divisor_above)) (omega arith)

  pub product_word : x * DR < 2 * (w * w)
  product_word = lt_of_mul-lt-mul_right w (omega (arith, product_most, cube))

  -- c(t) is not negative
  pub has_complement : (y : ℕ) → x * DR ≤ y * w → y * w < x * DR + 2 * w → (z : ℕ) × IsTurned w DR x y z
  has_complement y l h = (2 * w - (y + 2), record { product_above = l; product_near = h; complement = omega (arith, room) })
    where
      room : y + 2 ≤ 2 * w
      room = le_of_mul-le-mul_right {k = w * w} (omega (arith, product_most, cube, mul-le-mul_right w (le_of_lt h))) (omega arith)

-- the square of a distance
apart : (a u W : ℕ) → a + u ≡ W → 2 * W * u + a * a ≡ W * W + u * u
apart a u W h = omega (arith, ap (λ (m : ℕ). m * W) h, ap (λ (m : ℕ). m * u) h, ap (λ (m : ℕ). m * a) h)

gap_square : (u W : ℕ) → 2 * W * u + gap u W * gap u W ≡ W * W + u * u
gap_square u W = go (dec_le u W)
  where
    go : Dec (u ≤ W) → 2 * W * u + gap u W * gap u W ≡ W * W + u * u
    go (yes h) = apart (gap u W) u W (omega arith)
    go (no m) = omega (arith, apart (gap u W) W u (omega arith))

-- two numbers whose sum is at most 2 W have a product of at most W²
square_most : (W u q r : ℕ) → q + u + r ≤ 2 * W → u * (q + r) ≤ W * W
square_most W u q r h = omega (arith, mul-le-mul_left u h, gap_square u W)

module _ (w D DR x y z : ℕ) (n : IsNear w D DR x) (t : IsTurned w DR x y z) where
  -- z / w is 2 − x × D / w³ less a little
  complement_most : z * (w * w) + x * D + 2 * (w * w) ≤ 2 * (w * w * w)
  complement_most = omega (arith, mul-le-mul_right w t.product_above, mul-le-mul_left x n.divisor_above, ap (λ (m : ℕ). m * (w * w)) t.complement)

  complement_least : 2 * (w * w * w) ≤ z * (w * w) + x * D + 6 * (w * w)
  complement_least =
      omega (
        arith,
        mul-le-mul_right w (le_of_lt t.product_near),
        mul-le-mul_left x (le_of_lt n.divisor_near),
        mul-le-mul_right w n.most,
        ap (λ (m : ℕ). m * (w * w)) t.complement,
      )

  x_least : 509 * w ≤ 512 * x
  x_least = le_of_mul-le-mul_right {k = w * w} (omega (arith, below w D DR x n, mul-le-mul_left x (le_of_lt n.word))) (omega arith)

  -- x × z has 64 or 65 bits
  pub refined_top : w * w ≤ 2 * (x * z)
  refined_top = omega (arith, mul-le-mul x_least z_least)
    where
      z_least : 506 * w ≤ 512 * z
      z_least = le_of_mul-le-mul_right {k = w * w} (omega (arith, above w D DR x n, cube w D DR x n, complement_least)) (omega arith)

  pub refined_word_is : x * z < 2 * (w * w)
  refined_word_is = omega (arith, le_of_mul-le-mul_right {k = w * w * (w * w)} most (mul-pos v0 v0), x_least)
    where
      v0 : 0 < w * w
      v0 = omega arith

      square : x * D * (z * (w * w) + 2 * (w * w)) ≤ w * w * w * (w * w * w)
      square = square_most (w * w * w) (x * D) (z * (w * w)) (2 * (w * w)) complement_most

      most : (x * z + 2 * x) * (w * w * (w * w)) ≤ 2 * (w * w) * (w * w * (w * w))
      most = omega (arith, square, mul-le-mul_left ((x * z + 2 * x) * (w * w)) n.top)

-- ---- the error

-- q is 2 W − u less a little, and u1 is u × q / W rounded down
step_closer : (W v u u1 q D : ℕ) → 0 < W → q + u + 2 * v ≤ 2 * W → 2 * W ≤ q + u + 6 * v → u1 * W ≤ u * q → u * q ≤ u1 * W + 2 * D * W → D < v → IsCloser W v u u1
step_closer W v u u1 q D W0 most least down near word = record {
  under = le_of_mul-le-mul_right {k = W} (omega (arith, square_most W u q (2 * v) most)) W0;
  squared =
      let k : u ≤ W + gap u W = omega arith in
      omega (arith, gap_square u W, mul-le-mul_left u least, mul-le-mul_right W (le_of_lt word), mul-le-mul_left v k);
}

-- a step squares the error
pub closer : (w D DR x y z x1 : ℕ) → IsNear w D DR x → IsTurned w DR x y z → IsNext w x z x1 → IsCloser (w * w * w) (w * w) (x * D) (x1 * D)
closer w D DR x y z x1 n t r =
    step_closer (w * w * w) (w * w) (x * D) (x1 * D) (z * (w * w)) D (omega (arith, cube w D DR x n)) (complement_most w D DR x y z n t) (complement_least w D DR x y z n t)
    (omega (arith, mul-le-mul_right (D * (w * w)) r.below)) (omega (arith, mul-le-mul_right (D * (w * w)) (le_of_lt r.near))) n.word

-- an error of c / m becomes c² / m² and a few v
error : (W v u u1 m c : ℕ) → 0 < W → m * gap u W ≤ c * W → IsCloser W v u u1 → m * m * W ≤ m * m * u1 + c * c * W + (8 * m * m + 6 * m * c) * v
error W v u u1 m c W0 near r = go (gap u W) near r.squared
  where
    go : (a : ℕ) → m * a ≤ c * W → W * W ≤ u1 * W + a * a + 8 * v * W + 6 * v * a → m * m * W ≤ m * m * u1 + c * c * W + (8 * m * m + 6 * m * c) * v
    go a h k = le_of_mul-le-mul_right {k = W} (omega (arith, mul-le-mul h h, mul-le-mul_left (m * m) k, mul-le-mul_left (m * v) h)) W0

module _ (w D DR x x1 : ℕ) (n : IsNear w D DR x) (c : IsCloser (w * w * w) (w * w) (x * D) (x1 * D)) where
  W0 : 0 < w * w * w
  W0 = omega (arith, cube w D DR x n)

  first_error : 2 ^ 18 * gap (x1 * D) (w * w * w) ≤ 10 * (w * w * w)
  first_error = omega (arith, c.under, cube w D DR x n, error (w * w * w) (w * w) (x * D) (x1 * D) 512 3 W0 n.close c)

  -- a second step may follow the first
  pub next_near : IsNear w D DR x1
  next_near = record {
    half_word = n.half_word;
    top = n.top;
    word = n.word;
    divisor_above = n.divisor_above;
    divisor_near = n.divisor_near;
    most = le_of_mul-le-mul_right {k = w * w} (omega (arith, c.under, mul-le-mul_left x1 n.top)) (omega arith);
    close = omega (arith, first_error);
  }

  -- after the second the error is below 16 / 2^32
  pub last_close : (x2 : ℕ) → IsCloser (w * w * w) (w * w) (x1 * D) (x2 * D) → w * w * w < x2 * D + 16 * (w * w)
  last_close x2 k = omega (arith, W0, cube w D DR x n, error (w * w * w) (w * w) (x1 * D) (x2 * D) (2 ^ 18) 10 W0 first_error k)
