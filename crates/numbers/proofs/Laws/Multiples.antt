-- Fractions that are a multiple of a grid, of so many bits: on a finer grid, in a sum, and rounded.
use mathlib.Core.Path.{◌≡◌, refl, ap}
use mathlib.Core.Bool.{Bool, false}
use Prim.Native.Nat.{ℕ, zero, suc, ◌+◌, ◌-◌, ◌*◌, ◌^◌, ◌≤◌, ◌<◌}
use native.Mathlib.Nat.{le_trans, mul-le-mul_right, mul-lt-mul_of_pos_right, lt_of_mul-lt-mul_right, le_of_mul-le-mul_right, eq_of_mul-eq-mul_right, mul-pos, pow-succ'}
use native.Mathlib.Omega.{arith}
use lib.Dec.{ltb→lt}
use lib.Ieee.{up, down}
use lib.Ieee.Fits.{down_pos}
use lib.IntN.{nat_abs}
use lib.Pow.{pow-add, pow_pos, pow_mono, pow-lt}
use Rattle.numbers.specs.Biased.{bias}
use Rattle.numbers.specs.Fraction.{Fraction, IsFraction, Below, value, sum, magnitude, times, is_negative, IsScaled}
use Rattle.numbers.specs.Rounding.{round, by_mode}
use Rattle.numbers.specs.Answer.{given, rounded}
use Rattle.numbers.specs.declared.number.Number.{Number}
use Rattle.numbers.specs.declared.task.Mode.{Mode}
use Rattle.numbers.proofs.Laws.Bounds.{close_above}
use Rattle.numbers.proofs.Laws.Exponent.{exponent_below}
use Rattle.numbers.proofs.Laws.Powers.{pow_below, power_twice, word_parts, power_product, up_power, down_power, powers_divide}
use Rattle.numbers.proofs.Laws.Rounded.{IsUnits, exponent, whole, round_units}
use Rattle.numbers.proofs.Laws.Scaled.{zero_value, zero_scaled, signed_scaled, finer, scaled_size, value_fraction}
use Rattle.numbers.proofs.Laws.Tasks.{given_scaled}
use Rattle.numbers.proofs.Laws.Exact.{sum_scaled}

-- x is a whole number of grids 2^i / 2^o, 2^bits of them at most
pub record IsMultiple (bits i o : ℕ) (x : Fraction) : Type 0 where
  pub negative : Bool
  pub whole : ℕ
  pub most : whole ≤ 2 ^ bits
  pub amount : IsScaled x negative whole i o

pub multiple_of : {bits : ℕ} {x : Fraction} {s : Bool} {N i o : ℕ} → IsScaled x s N i o → N ≤ 2 ^ bits → IsMultiple bits i o x
multiple_of {s = s} {N} h most = record { negative = s; whole = N; most = most; amount = h }

-- ---- on a finer grid, and in a sum

-- A multiple of a grid is one of a grid that is 2^c times finer, with c bits more.
pub multiple_finer : (c : ℕ) {bits more i j o p : ℕ} {x : Fraction} → IsMultiple bits i o x → i + p ≡ c + j + o → bits + c ≤ more → IsMultiple more j p x
multiple_finer c {bits} h level enough =
    multiple_of (finer h.amount c level) (le_trans (rw (pow-add 2 bits c) (mul-le-mul_right (2 ^ c) h.most)) (pow_mono enough))

-- The sum of two has one bit more.
pub multiple_sum : {bits i o : ℕ} {x y : Fraction} → IsMultiple bits i o x → IsMultiple bits i o y → IsMultiple (suc bits) i o (sum x y)
multiple_sum {bits} h k = let t = sum_scaled h.amount k.amount in multiple_of t.3 (omega (arith, t.2, h.most, k.most, pow-succ' 2 bits))

-- It is below 2^n grids of another kind, where its bits say so.
pub multiple_below : (n j p : ℕ) {bits i o : ℕ} {x : Fraction} → IsMultiple bits i o x → bits + i + p < n + j + o → nat_abs x.numerator * 2 ^ p < 2 ^ n * (x.denominator * 2 ^ j)
multiple_below n j p {bits} {i} {o} {x} h less =
    bounded (nat_abs x.numerator) x.denominator h.whole (2 ^ bits) (2 ^ i) (2 ^ p) (2 ^ n) (2 ^ j) (2 ^ o) h.amount.positive
    (scaled_size h.amount) h.most
    (rw (← pow-add 2 bits i, ← pow-add 2 (bits + i) p, ← pow-add 2 n j, ← pow-add 2 (n + j) o) (pow-lt less))
  where
    bounded : (X d K B I P N J O : ℕ) → 0 < d → X * O ≡ K * I * d → K ≤ B → B * I * P < N * J * O → X * P < N * (d * J)
    bounded X d K B I P N J O d0 size most less =
        lt_of_mul-lt-mul_right O (omega (arith, ap (λ (z : ℕ). z * P) size, mul-le-mul_right (I * P * d) most, mul-lt-mul_of_pos_right {k = d} less d0))

-- ---- its rounding

-- Its rounding is given, where the exponent is working whatever the multiple.
pub multiple_given : (mode : Mode) (n : ℕ) {bits i o : ℕ} {x : Fraction} → IsMultiple bits i o x → 1 ≤ n → n ≤ 64 → o ≤ i + bias → i + bits < o + 65536
    → rounded (by_mode mode n) x ≡ given (round mode n x)
multiple_given mode n {bits} h n0 n1 low high =
    given_scaled mode n (suc bits) h.amount n0 n1 (omega (arith, h.most, pow-succ' 2 bits, pow_pos bits)) low (omega arith)

-- the rounding Y / f of X / d is q units u / (p v), and u / v is t grids I / O
module _ (X d K I O Y f q u v p r w t : ℕ) (d0 : 0 < d) (f0 : 0 < f) (I0 : 0 < I) (v0 : 0 < v) (size : X * O ≡ K * I * d) (units : Y * (p * v) ≡ q * u * f) (word : p * r ≡ w)
    (grid : u * O ≡ t * (I * v)) where
  rounded_amount : Y * (O * w) ≡ q * t * r * I * f
  rounded_amount =
      eq_of_mul-eq-mul_right v v0 (Y * (O * w)) (q * t * r * I * f)
      (omega (arith, ap (λ (z : ℕ). z * (O * r)) units, ap (λ (z : ℕ). z * (q * f * r)) grid, ap (λ (z : ℕ). z * (Y * O * v)) word))

  rounded_most : Y * d ≤ 2 * X * f → q * t * r ≤ 2 * w * K
  rounded_most twice =
      le_of_mul-le-mul_right {k = I * f * d}
      (omega (arith, ap (λ (z : ℕ). z * d) rounded_amount, mul-le-mul_right (O * w) twice, ap (λ (z : ℕ). z * (2 * f * w)) size))
      (mul-pos (mul-pos I0 f0) d0)

-- a rounding is less than twice its value
twice_below : (mode : Mode) (n : ℕ) (x : Fraction) → IsFraction x → 1 ≤ n → n ≤ 64 → 0 < nat_abs x.numerator
    → nat_abs (value (round mode n x)).numerator * x.denominator ≤ 2 * nat_abs x.numerator * (value (round mode n x)).denominator
unfolding Below times magnitude
twice_below mode n x x0 n0 n1 some =
    halved (nat_abs (value (round mode n x)).numerator) x.denominator (nat_abs x.numerator) (value (round mode n x)).denominator (2 ^ (n - 1)) (pow_pos (n - 1))
    (ltb→lt _ _ (close_above x n x0 n0 n1 mode some).lt)
  where
    halved : (Y d X f p : ℕ) → 0 < p → Y * p * d < X * (p + 1) * f → Y * d ≤ 2 * X * f
    halved Y d X f p p0 h = le_of_mul-le-mul_right {k = p} (omega (arith, mul-le-mul_right (X * f) p0)) p0

-- 2^e is above half a grid, e being the exponent of a multiple that is not zero
grid_below_units : (X d K I O u v : ℕ) → 0 < d → 0 < X → 0 < O → X * O ≡ K * I * d → X * v < 2 * (d * u) → I * v < 2 * (u * O)
grid_below_units X d zero I O u v d0 X0 O0 size less = absurd (omega (arith, mul-pos X0 O0))
grid_below_units X d (suc K) I O u v d0 X0 O0 size less = lt_of_mul-lt-mul_right d (omega (arith, ap (λ (z : ℕ). z * v) size, mul-lt-mul_of_pos_right {k = O} less O0))

pub zero_rounded : (mode : Mode) (n : ℕ) (x : Fraction) → nat_abs x.numerator ≡ 0 → nat_abs (value (round mode n x)).numerator ≡ 0
unfolding round
zero_rounded mode n x e = rw e zero_value

-- A rounding to n bits, 64 at most, is a multiple of a grid that is 2^63 times finer.
pub multiple_rounded : (mode : Mode) (n : ℕ) {bits i o : ℕ} {x : Fraction} → IsMultiple bits i o x → 1 ≤ n → n ≤ 64 → IsMultiple (bits + 64) i (o + 63) (value (round mode n x))
multiple_rounded mode n {bits} {i} {o} {x} h n0 n1 = go (nat_abs x.numerator) refl
  where
    y : Number
    y = round mode n x

    X : ℕ
    X = nat_abs x.numerator

    d : ℕ
    d = x.denominator

    K : ℕ
    K = h.whole

    q : ℕ
    q = whole mode n x

    u : ℕ
    u = up (exponent x)

    v : ℕ
    v = down (exponent x)

    units : IsUnits y (is_negative x.numerator) n (exponent x) q
    units = round_units mode n x h.amount.positive n0 n1

    size : X * 2 ^ o ≡ K * 2 ^ i * d
    size = scaled_size h.amount

    coarse : 0 < X → 2 ^ i * v < 2 * (u * 2 ^ o)
    coarse some = grid_below_units X d K (2 ^ i) (2 ^ o) u v h.amount.positive some (pow_pos o) size (exponent_below X d some h.amount.positive)

    some_rounded : 0 < X → IsMultiple (bits + 64) i (o + 63) (value y)
    some_rounded some =
        at (powers_divide (2 ^ i * v) (u * 2 ^ o) (power_product (2 ^ i) v (i, refl) (down_power (exponent x)))
        (power_product u (2 ^ o) (up_power (exponent x)) (o, refl)) (coarse some))
      where
        at : (t : ℕ) × (u * 2 ^ o ≡ t * (2 ^ i * v)) → IsMultiple (bits + 64) i (o + 63) (value y)
        at (t, grid) =
            multiple_of {N = q * t * 2 ^ (64 - n)}
            (signed_scaled (value_fraction y) units.sign
            (rw (pow-add 2 o 63)
            (rounded_amount X d K (2 ^ i) (2 ^ o) (nat_abs (value y).numerator) (value y).denominator q u v (2 ^ (n - 1)) (2 ^ (64 - n)) (2 ^ 63) t h.amount.positive
            (value_fraction y) (pow_pos i) (down_pos (exponent x)) size units.ratio (word_parts n n0 n1) grid)))
            (omega (
              arith,
              rounded_most X d K (2 ^ i) (2 ^ o) (nat_abs (value y).numerator) (value y).denominator q u v (2 ^ (n - 1)) (2 ^ (64 - n)) (2 ^ 63) t h.amount.positive
                  (value_fraction y) (pow_pos i) (down_pos (exponent x)) size units.ratio (word_parts n n0 n1) grid (twice_below mode n x h.amount.positive n0 n1 some),
              h.most,
              pow-add 2 bits 64,
            ))

    go : (a : ℕ) → X ≡ a → IsMultiple (bits + 64) i (o + 63) (value y)
    go zero e = multiple_of {s = false} (zero_scaled (value_fraction y) (zero_rounded mode n x e)) (omega arith)
    go (suc a) e = some_rounded (omega arith)

-- the unit u / (p v) of the last place is above a grid I / O, where X / d is 2 p grids or more and below twice u / v
grid_below_unit : (X d p u v I O : ℕ) → 0 < O → 2 * p * (d * I) ≤ X * O → X * v < 2 * (d * u) → I * (p * v) < u * O
grid_below_unit X d p u v I O O0 fine below = lt_of_mul-lt-mul_right (2 * d) (omega (arith, mul-le-mul_right v fine, mul-lt-mul_of_pos_right {k = O} below O0))

-- A rounding to n bits of a value of 2^n grids or more is a whole number of grids.
pub round_multiple : (mode : Mode) (n i o : ℕ) (x : Fraction) → IsFraction x → 1 ≤ n → n ≤ 64 → 2 ^ n * (x.denominator * 2 ^ i) ≤ nat_abs x.numerator * 2 ^ o
    → (N : ℕ) × IsScaled (value (round mode n x)) (is_negative x.numerator) N i o
round_multiple mode n i o x x0 n0 n1 fine = at (up_power (exponent x)) (power_product (2 ^ (n - 1)) (down (exponent x)) (n - 1, refl) (down_power (exponent x)))
  where
    some : 0 < nat_abs x.numerator
    some = lt_of_mul-lt-mul_right (2 ^ o) (omega (arith, fine, mul-pos (pow_pos n) (mul-pos x0 (pow_pos i))))

    units : IsUnits (round mode n x) (is_negative x.numerator) n (exponent x) (whole mode n x)
    units = round_units mode n x x0 n0 n1

    at : (a : ℕ) × (up (exponent x) ≡ 2 ^ a) → (c : ℕ) × (2 ^ (n - 1) * down (exponent x) ≡ 2 ^ c) → (N : ℕ) × IsScaled (value (round mode n x)) (is_negative x.numerator) N i o
    at (a, u) (c, v) =
        let coarse : i + c < a + o =
        pow_below (i + c) (a + o)
        (rw (pow-add 2 i c, pow-add 2 a o, ← u, ← v)
        (grid_below_unit (nat_abs x.numerator) x.denominator (2 ^ (n - 1)) (up (exponent x)) (down (exponent x)) (2 ^ i) (2 ^ o) (pow_pos o)
        (rw (← power_twice n n0) fine) (exponent_below (nat_abs x.numerator) x.denominator some x0)))
        in
        (whole mode n x * 2 ^ (a + o - (i + c)), finer {i = a} {o = c} (signed_scaled (value_fraction (round mode n x)) units.sign (rw (← u, ← v) units.ratio)) (a + o - (i + c)) (omega arith))
