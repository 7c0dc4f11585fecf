-- Rounding keeps the order, in every mode: of two fractions the greater one has no smaller rounding.
use mathlib.Core.Path.{◌≡◌, refl, sym, ap}
use mathlib.Core.Bool.{Bool, true, false, not, ◌&&◌, ◌||◌, cond}
use mathlib.Core.Logic.{◌⊎◌, inl, inr}
use Prim.Native.Nat.{ℕ, zero, suc, ◌+◌, ◌-◌, ◌*◌, ◌/◌, ◌%◌, ◌^◌, ◌≤◌, ◌<◌}
use native.Mathlib.Nat.{le_of_lt, eq-or-lt_of_le, lt_of_mul-lt-mul_right, mul-pos, mul-le-mul_left, mul-le-mul_right, mul-lt-mul_of_pos_right, div-add-mod'}
use native.Mathlib.Omega.{arith}
use lib.Dec.{T, ltb, eqb, ltb→lt, lt→ltb, nltb→le, eqb→eq}
use lib.Ieee.{up, down}
use lib.Ieee.Fits.{up_pos, down_pos, and_i, and_l, and_r, eq→eqb}
use lib.Ieee.Nearest.{div_mono}
use lib.Ieee.Order.{transfer}
use lib.IntN.{nat_abs}
use lib.Pow.{pow_pos}
use Rattle.numbers.specs.Fraction.{Fraction, IsFraction, AtMost, value, is_negative}
use Rattle.numbers.specs.Rounding.{exponent_of, scaled_numerator, scaled_denominator, goes_up, whole_of, round}
use Rattle.numbers.specs.declared.task.Mode.{Mode}
use Rattle.numbers.specs.declared.task.Mode.TheVariants.{Trunc, Away, Near, Sticky, Up, Down}
use Rattle.numbers.proofs.Laws.Tests.{at_most_one}
use Rattle.numbers.proofs.Laws.Exponent.{exponent_reaches, exponent_below}
use Rattle.numbers.proofs.Laws.Fits.{scaled_low, scaled_high}
use Rattle.numbers.proofs.Laws.Misses.{whole_exact}
use Rattle.numbers.proofs.Laws.Multiples.{zero_rounded}
use Rattle.numbers.proofs.Laws.Pairs.{signed_pair, at_most_pair}
use Rattle.numbers.proofs.Laws.Powers.{power_twice, power_product, up_power, down_power, powers_divide}
use Rattle.numbers.proofs.Laws.Rounded.{exponent, round_units}
use Rattle.numbers.proofs.Laws.Alike.{own_sign}
use Rattle.numbers.proofs.Laws.Value.{whole_alone}

-- ---- whole numbers

-- where there is a fraction, a greater one is a fraction too
some_more : (r t : ℕ) (f : Bool) → r ≤ t → T (ltb 0 r && f) → T (ltb 0 t && f)
some_more r t f l h = and_i (ltb 0 t) f (lt→ltb 0 t (omega (arith, ltb→lt 0 r (and_l (ltb 0 r) f h)))) (and_r (ltb 0 r) f h)

-- where a fraction goes up, a greater one with the same whole part goes up too
more_up : (mode : Mode) (s : Bool) (q r t b : ℕ) → r ≤ t → T (goes_up mode s q r b) → T (goes_up mode s q t b)
unfolding goes_up
more_up Trunc s q r t b l h = h
more_up Away s q r t b l h = lt→ltb 0 t (omega (arith, ltb→lt 0 r h))
more_up Near s q r t b l h =
    go (ltb b (2 * r)) (eqb (2 * r) b) (ltb b (2 * t)) (eqb (q % 2) 1) (ltb→lt b (2 * r)) (eqb→eq (2 * r) b) (nltb→le b (2 * t)) h
  where
    go : (more half other odd : Bool) → (T more → b < 2 * r) → (T half → 2 * r ≡ b) → (T (not other) → 2 * t ≤ b)
        → T (more || (half && odd)) → T (other || (eqb (2 * t) b && odd))
    go more half true odd x y z h = tt
    go true half false odd x y z h = absurd (omega (arith, x tt, z tt))
    go false true false odd x y z h = and_i (eqb (2 * t) b) odd (eq→eqb {a = 2 * t} {b = b} (omega (arith, y tt, z tt))) h
    go false false false odd x y z h = absurd h
more_up Sticky s q r t b l h = some_more r t (eqb (q % 2) 0) l h
more_up Up s q r t b l h = some_more r t (not s) l h
more_up Down s q r t b l h = some_more r t s l h

-- over one denominator: the whole part is greater, or it is the same and the rest is not smaller
whole_steps : (mode : Mode) (s : Bool) (a c b : ℕ) → 0 < b → a ≤ c → whole_of mode s a b ≤ whole_of mode s c b
unfolding whole_of
whole_steps mode s a c b b0 h = go (eq-or-lt_of_le (div_mono a b c b b0 b0 (mul-le-mul_right b h)))
  where
    step : (q : ℕ) (t u : Bool) → (T t → T u) → q + cond t 1 0 ≤ q + cond u 1 0
    step q true true k = omega arith
    step q true false k = absurd (k tt)
    step q false u k = omega arith

    go : (a / b ≡ c / b) ⊎ (a / b < c / b)
        → a / b + cond (goes_up mode s (a / b) (a % b) b) 1 0 ≤ c / b + cond (goes_up mode s (c / b) (c % b) b) 1 0
    go (inl e) =
        rw e
        (step (c / b) (goes_up mode s (c / b) (a % b) b) (goes_up mode s (c / b) (c % b) b)
        (more_up mode s (c / b) (a % b) (c % b) b (omega (arith, div-add-mod' a b, div-add-mod' c b, ap (λ (m : ℕ). m * b) e))))
    go (inr l) = omega (arith, at_most_one (goes_up mode s (a / b) (a % b) b))

-- of two fractions the greater one is made no smaller a whole number
pub whole_monotone : (mode : Mode) (s : Bool) (a b c d : ℕ) → 0 < b → 0 < d → a * d ≤ c * b → whole_of mode s a b ≤ whole_of mode s c d
whole_monotone mode s a b c d b0 d0 h =
    rw (
      whole_alone a b (a * d) (b * d) b0 (mul-pos b0 d0) (omega arith) mode s,
      whole_alone c d (c * b) (b * d) d0 (mul-pos b0 d0) (omega arith) mode s,
    )
    (whole_steps mode s (a * d) (c * b) (b * d) (mul-pos b0 d0) h)

-- ---- magnitudes

-- with 2^e = u / v ≤ a / b ≤ c / d < 2 p / q = 2^(f + 1): 2^e is below twice 2^f
exponents_near : (a b c d u v p q : ℕ) → 0 < b → 0 < v → b * u ≤ a * v → c * q < 2 * (d * p) → a * d ≤ c * b → u * q < 2 * (p * v)
exponents_near a b c d u v p q b0 v0 h k l =
    lt_of_mul-lt-mul_right (b * d)
    (omega (arith, mul-le-mul_right (q * d) h, mul-le-mul_right (v * q) l, mul-lt-mul_of_pos_right {k = b * v} k (mul-pos b0 v0)))

-- w units A against z units B, w and z from P to 2 P: B is A, or twice A or more
units_below : (P w z A B t : ℕ) → B ≡ t * A → 0 < B → w ≤ 2 * P → P ≤ z → (A ≡ B → w ≤ z) → w * A ≤ z * B
units_below P w z A B zero e B0 high low same = absurd (omega arith)
units_below P w z A B (suc zero) e B0 high low same =
    let k : A ≡ B = omega arith in omega (arith, mul-le-mul_right A (same k), ap (λ (m : ℕ). z * m) k)
units_below P w z A B (suc (suc t)) e B0 high low same = omega (arith, mul-le-mul_right A high, mul-le-mul_right B low, ap (λ (m : ℕ). P * m) e)

-- how many units of its own last place the magnitude a / b is made
abbrev pub units : Mode → ℕ → Bool → ℕ → ℕ → ℕ
units mode n s a b = whole_of mode s (scaled_numerator n (exponent_of a b) a) (scaled_denominator (exponent_of a b) b)

-- from 2^(n − 1) to 2^n
module _ (mode : Mode) (n : ℕ) (s : Bool) (a b : ℕ) (a0 : 0 < a) (b0 : 0 < b) (n0 : 1 ≤ n) where
  denominator0 : 0 < scaled_denominator (exponent_of a b) b
  unfolding scaled_denominator
  denominator0 = mul-pos b0 (up_pos (exponent_of a b))

  pub units_low : 2 ^ (n - 1) ≤ units mode n s a b
  units_low =
      rw (whole_exact mode s (2 ^ (n - 1)) (scaled_denominator (exponent_of a b) b) denominator0) at
      (whole_steps mode s _ _ _ denominator0 (scaled_low a b n a0 b0 n0))

  pub units_high : units mode n s a b ≤ 2 ^ n
  units_high =
      rw (whole_exact mode s (2 ^ n) (scaled_denominator (exponent_of a b) b) denominator0) at
      (whole_steps mode s _ _ _ denominator0 (le_of_lt (scaled_high a b n a0 b0 n0)))

-- two magnitudes a / b ≤ c / d, each in its own units
units_monotone : (mode : Mode) (n : ℕ) (s : Bool) (a b c d : ℕ) → 0 < a → 0 < b → 0 < c → 0 < d → 1 ≤ n → a * d ≤ c * b
    → units mode n s a b * (up (exponent_of a b) * down (exponent_of c d)) ≤ units mode n s c d * (up (exponent_of c d) * down (exponent_of a b))
unfolding scaled_numerator scaled_denominator
units_monotone mode n s a b c d a0 b0 c0 d0 n0 h =
    let e = exponent_of a b in
    let f = exponent_of c d in
    let near = exponents_near a b c d (up e) (down e) (up f) (down f) b0 (down_pos e) (exponent_reaches a b a0 b0) (exponent_below c d c0 d0) h in
    let t = powers_divide _ _ (power_product _ _ (up_power e) (down_power f)) (power_product _ _ (up_power f) (down_power e)) near in
    units_below (2 ^ (n - 1)) _ _ (up e * down f) (up f * down e) t.0 t.1 (mul-pos (up_pos f) (down_pos e))
    (rw (power_twice n n0) at (units_high mode n s a b a0 b0 n0)) (units_low mode n s c d c0 d0 n0)
    (λ (k : up e * down f ≡ up f * down e).
    whole_monotone mode s _ _ _ _ (mul-pos b0 (up_pos e)) (mul-pos d0 (up_pos f))
    (omega (arith, mul-le-mul_right (2 ^ (n - 1) * (up f * down e)) h, ap (λ (m : ℕ). c * b * 2 ^ (n - 1) * m) k)))

-- ---- fractions

-- the magnitude of the rounding of x, over the denominator of that of y
abbrev size : Mode → ℕ → Fraction → Fraction → ℕ
size mode n x y = nat_abs (value (round mode n x)).numerator * (value (round mode n y)).denominator

-- of two fractions with one sign
size_monotone : (mode : Mode) (n : ℕ) (x y : Fraction) → IsFraction x → IsFraction y → 1 ≤ n → n ≤ 64 → is_negative x.numerator ≡ is_negative y.numerator
    → nat_abs x.numerator * y.denominator ≤ nat_abs y.numerator * x.denominator → size mode n x y ≤ size mode n y x
size_monotone mode n x y x0 y0 n0 n1 sign h = go (nat_abs x.numerator) refl
  where
    go : (a : ℕ) → nat_abs x.numerator ≡ a → size mode n x y ≤ size mode n y x
    go zero e = rw (zero_rounded mode n x e) (omega arith)
    go (suc a) e =
        let P = 2 ^ (n - 1) in
        let some : 1 ≤ nat_abs x.numerator = omega arith in
        let other : 0 < nat_abs y.numerator = lt_of_mul-lt-mul_right x.denominator (omega (arith, mul-le-mul_right y.denominator some)) in
        transfer _ _ _ _ _ _ (P * down (exponent x)) (P * down (exponent y))
        (mul-pos (pow_pos (n - 1)) (down_pos (exponent x))) (mul-pos (pow_pos (n - 1)) (down_pos (exponent y)))
        (rw sign at (round_units mode n x x0 n0 n1).ratio) (round_units mode n y y0 n0 n1).ratio
        (omega (arith, mul-le-mul_right P (units_monotone mode n (is_negative y.numerator) _ _ _ _ some x0 other y0 n0 h)))

-- from magnitudes to fractions: below zero the order turns round, and where x is not below zero and y is, both are zero
turned : (s t : Bool) (a b c d A B C D : ℕ) → (s ≡ t → a * d ≤ c * b → A * D ≤ C * B) → (s ≡ t → c * b ≤ a * d → C * B ≤ A * D)
    → (a * d + c * b ≤ 0 → (A ≡ 0) × (C ≡ 0)) → cond s 0 a * d + cond t c 0 * b ≤ cond t 0 c * b + cond s a 0 * d
    → cond s 0 A * D + cond t C 0 * B ≤ cond t 0 C * B + cond s A 0 * D
turned false false a b c d A B C D there back none h = omega (arith, there refl (omega arith))
turned true true a b c d A B C D there back none h = omega (arith, back refl (omega arith))
turned true false a b c d A B C D there back none h = omega arith
turned false true a b c d A B C D there back none h = let z = none (omega arith) in rw (z.0, z.1) (omega arith)

-- Of two fractions the greater one has no smaller rounding, in every mode and to n bits.
pub round_monotone : (mode : Mode) (n : ℕ) (x y : Fraction) → IsFraction x → IsFraction y → 1 ≤ n → n ≤ 64 → AtMost x y
    → AtMost (value (round mode n x)) (value (round mode n y))
round_monotone mode n x y x0 y0 n0 n1 h =
    let a = nat_abs x.numerator in
    let c = nat_abs y.numerator in
    (at_most_pair (signed_pair (value (round mode n x)) _ _ (round_units mode n x x0 n0 n1).sign)
    (signed_pair (value (round mode n y)) _ _ (round_units mode n y y0 n0 n1).sign)).1
    (turned (is_negative x.numerator) (is_negative y.numerator) a x.denominator c y.denominator _ _ _ _
    (size_monotone mode n x y x0 y0 n0 n1)
    (λ e. size_monotone mode n y x y0 x0 n0 n1 (sym e))
    (λ (l : a * y.denominator + c * x.denominator ≤ 0).
    (zero_rounded mode n x (omega (arith, mul-le-mul_left a y0)), zero_rounded mode n y (omega (arith, mul-le-mul_left c x0))))
    ((at_most_pair (signed_pair x _ _ (own_sign x)) (signed_pair y _ _ (own_sign y))).0 h))
