-- Near to 53 bits is the rounding of IEEE 754's binary64, as Float.Ieee of std has it, wherever near to 53 bits gives a normal number or zero.
use mathlib.Core.Path.{◌≡◌, refl, sym, ap, ap₂, ◌∙◌}
use mathlib.Core.Bool.{Bool, true, false, not, ◌&&◌, ◌||◌, cond}
use mathlib.Core.Logic.{◌⊎◌, inl, inr}
use Prim.Native.Nat.{ℕ, zero, suc, ◌+◌, ◌-◌, ◌*◌, ◌/◌, ◌%◌, ◌^◌, ◌≤◌, ◌<◌, compare, Ordering}
use native.Mathlib.Decide.{dec_le, ℕ_discrete}
use native.Mathlib.Nat.{add-zero, zero-add, zero-mul, mul-one, le_of_lt, lt_of_lt_of_le, lt_of_not-le, le_antisymm, pos_of_ne-zero, pow-suc, pow-succ'}
use native.Mathlib.Nat.{mul-pos, mul-le-mul_right, mul-lt-mul_of_pos_right, le_of_mul-le-mul_right, lt_of_mul-lt-mul_right, mul-mod_left, mul-div_cancel, div-div-eq-div-mul, le-div_iff_mul-le, div-lt_iff_lt-mul}
use native.Mathlib.Omega.{arith}
use borrow.Author.Tests.{lt-ltb, le-ltb, eq-eqb, ne_eqb}
use lib.Count.{count_trailing_zeros, under}
use lib.Dec.{T, is_le, compare_is_eq, ltb, eqb, leb→le, nleb→lt, eqb→eq, lit<, lit≤}
use lib.Ieee as ieee
use lib.Ieee.{fin, Format, binary64, prec, emax, low, minus, up, down, size, nearest, odd, units}
use lib.Ieee.Digits.{size-lt, size_reaches, minus_val}
use lib.Ieee.Exact.{HasValue, odd_sign}
use lib.Ieee.Fits.{core, round_is, eq→eqb, up_pos}
use lib.Ieee.Nearest.{closest, closest_same}
use lib.IntN.{ℤ, pos, negsuc, neg_ℤ, nat_abs}
use lib.Pow.{pow-add, pow_pos, pow_mono, shl_lt}
use Rattle.numbers.specs.Fraction.{Fraction, IsFraction, is_negative}
use Rattle.numbers.specs.Number.{is_between, is_fit}
use Rattle.numbers.specs.Rounding.{settled, exponent_of, scaled_numerator, scaled_denominator, goes_up, whole_of, placed, rounded_at, round}
use Rattle.numbers.specs.declared.number.Number.TheVariants.{Finite}
use Rattle.numbers.specs.declared.task.Mode.TheVariants.{Near}
use Rattle.numbers.proofs.Laws.Minus.{minus_same, suc_minus, minus_natural, minus_negative}
use Rattle.numbers.proofs.Laws.Bias.{between_range}
use Rattle.numbers.proofs.Laws.Exponent.{exponent_unique, reached, named}
use Rattle.numbers.proofs.Laws.Misses.{whole_exact, whole_near}
use Rattle.numbers.proofs.Laws.Powers.{pow_below, power_sum}
use Rattle.numbers.proofs.Laws.Signs.{abs_zero}
use Rattle.numbers.proofs.Laws.Value.{whole_alone}
use Rattle.numbers.proofs.Laws.Working.{fit_parts}
use Rattle.meaning.specs.Ieee.{float_of, lowest_normal, highest_normal, is_normal_or_zero}
use Rattle.meaning.proofs.Monotone.{units_low, units_high, whole_monotone}

-- ---- the nearest whole number: both accounts have one

pub near_closest : (s : Bool) (a b : ℕ) → whole_of Near s a b ≡ closest a b
unfolding whole_of goes_up
near_closest s a b =
    go (a / b) (a % b) (compare (a % b * 2) b) (leb→le (a % b * 2) b) (nleb→lt (a % b * 2) b) (eqb→eq (a % b * 2) b) (λ (e : a % b * 2 ≡ b). eq→eqb e)
  where
    tie : (q : ℕ) → Dec (q % 2 ≡ 1) → q + cond (eqb (q % 2) 1) 1 0 ≡ q + q % 2
    tie q (yes e) = rw (eq-eqb (q % 2) 1 e) (omega arith)
    tie q (no n) = rw (ne_eqb (q % 2) 1 n) (omega arith)

    go : (q r : ℕ) (o : Ordering) → (T (is_le o) → r * 2 ≤ b) → (T (not (is_le o)) → b < r * 2) → (T (compare_is_eq o) → r * 2 ≡ b) → (r * 2 ≡ b → T (compare_is_eq o))
        → q + cond (ltb b (2 * r) || (eqb (2 * r) b && eqb (q % 2) 1)) 1 0 ≡ nearest q o
    go q r Ordering.lt h k e n = rw (le-ltb b (2 * r) (omega (arith, h tt)), ne_eqb (2 * r) b (λ (z : 2 * r ≡ b). n (omega arith))) (add-zero q)
    go q r Ordering.eq h k e n = rw (le-ltb b (2 * r) (omega (arith, h tt)), eq-eqb (2 * r) b (omega (arith, e tt))) (tie q (ℕ_discrete (q % 2) 1))
    go q r Ordering.gt h k e n = rw (lt-ltb b (2 * r) (omega (arith, k tt))) (omega arith)

-- ---- a whole number times a power of two, written with an odd one

-- what `odd` writes of a number above 0
odd_some : (d : ℕ) (s : Bool) (q k l : ℕ) → 0 < q → odd d s q k l ≡ fin s (q / 2 ^ count_trailing_zeros d q) (minus (k + count_trailing_zeros d q) l)
unfolding odd
odd_some d s zero k l q0 = absurd (omega arith)
odd_some d s (suc q) k l q0 = refl

-- k − l alone counts
odd_moved : (d : ℕ) (s : Bool) (q k l i o : ℕ) → k + o ≡ i + l → odd d s q k l ≡ odd d s q i o
unfolding odd
odd_moved d s zero k l i o e = refl
odd_moved d s (suc q) k l i o e =
    let t = count_trailing_zeros d (suc q) in ap (λ (z : ℤ). fin s (suc q / 2 ^ t) z) (minus_same (k + t) l (i + t) o (omega arith))

-- a number times two ends in one 0 more
trailing_twice : (d q : ℕ) → count_trailing_zeros (suc d) (q * 2) ≡ suc (count_trailing_zeros d q)
unfolding count_trailing_zeros
trailing_twice d q = rw (mul-mod_left q 2, mul-div_cancel q (lit< tt))

-- a last bit that is 0 goes into the power
odd_twice : (d : ℕ) (s : Bool) (q k l : ℕ) → 0 < q → odd (suc d) s (q * 2) k l ≡ odd d s q (suc k) l
odd_twice d s q k l q0 =
    odd_some (suc d) s (q * 2) k l (omega arith)
    ∙ rw (trailing_twice d q) (ap₂ (fin s) half (ap (λ (m : ℕ). minus m l) (omega arith)))
    ∙ sym (odd_some d s q (suc k) l q0)
  where
    half : q * 2 / 2 ^ suc (count_trailing_zeros d q) ≡ q / 2 ^ count_trailing_zeros d q
    half =
        ap (λ (m : ℕ). q * 2 / m) (pow-succ' 2 (count_trailing_zeros d q))
        ∙ sym (div-div-eq-div-mul (q * 2) 2 (2 ^ count_trailing_zeros d q))
        ∙ ap (λ (m : ℕ). m / 2 ^ count_trailing_zeros d q) (mul-div_cancel q (lit< tt))

-- and so do j of them
odd_times : (j d : ℕ) (s : Bool) (q k l : ℕ) → 0 < q → odd (j + d) s (q * 2 ^ j) k l ≡ odd d s q (j + k) l
odd_times zero d s q k l q0 = simp (zero-add, mul-one)
odd_times (suc j) d s q k l q0 =
    ap₂ (λ (c m : ℕ). odd c s m k l) (let e : suc j + d ≡ suc (j + d) = omega arith in e) (omega (arith, ap (λ (m : ℕ). q * m) (pow-suc 2 j)))
    ∙ odd_twice (j + d) s (q * 2 ^ j) k l (mul-pos q0 (pow_pos j))
    ∙ odd_times j d s q (suc k) l q0
    ∙ ap (λ (m : ℕ). odd d s q m l) (let e : j + suc k ≡ suc j + k = omega arith in e)

-- a count of bits beyond the number's own changes nothing
trailing_enough : (d q : ℕ) → 0 < q → q < 2 ^ d → count_trailing_zeros (suc d) q ≡ count_trailing_zeros d q
unfolding count_trailing_zeros
trailing_enough zero q q0 h = absurd (let l : q < 1 = h in omega arith)
trailing_enough (suc d) q q0 h = go (q % 2) refl (trailing_enough d (q / 2))
  where
    go : (r : ℕ) → q % 2 ≡ r → (0 < q / 2 → q / 2 < 2 ^ d → count_trailing_zeros (suc d) (q / 2) ≡ count_trailing_zeros d (q / 2))
        → under r (count_trailing_zeros (suc d) (q / 2)) ≡ under r (count_trailing_zeros d (q / 2))
    go zero e rest = ap suc (rest (omega arith) (omega (arith, pow-succ' 2 d)))
    go (suc r) e rest = refl

-- nor does it change what `odd` writes
odd_enough : (d : ℕ) (s : Bool) (q k l : ℕ) → 0 < q → q < 2 ^ d → odd (suc d) s q k l ≡ odd d s q k l
odd_enough d s q k l q0 h = odd_some (suc d) s q k l q0 ∙ rw (trailing_enough d q q0 h) (sym (odd_some d s q k l q0))

-- ---- a number as a value of Float.Ieee of std

-- with the exponent i − o it is ± S × 2^i / 2^(o + 63)
float_minus : (s : Bool) (i o S : ℕ) → float_of (Finite s (minus i o) S) ≡ odd 64 s S i (o + 63)
unfolding float_of
float_minus s i o S = go (dec_le o i)
  where
    go : Dec (o ≤ i) → float_of (Finite s (minus i o) S) ≡ odd 64 s S i (o + 63)
    go (yes h) = rw (minus_natural i o h) (odd_moved 64 s S (i - o) 63 i (o + 63) (omega arith))
    go (no n) = let h : i < o = lt_of_not-le n in rw (minus_negative i o h) (odd_moved 64 s S 0 (64 + (o - suc i)) i (o + 63) (omega arith))

-- it has the number's sign and value
pub float_value : (s : Bool) (e : ℤ) (S : ℕ) → HasValue (float_of (Finite s e S)) s (S * up e) (2 ^ 63 * down e)
unfolding float_of
float_value s (pos k) S = odd_sign 64 s S k 63
float_value s (negsuc k) S =
    rw (power_sum (64 + k) 63 (suc k) (omega arith)) at (odd_sign 64 s S 0 (64 + k))

-- q × 2^k of the units 2^−1074, with a carry and without one
placed_float : (s : Bool) (k q : ℕ) → 0 < q → q ≤ 2 ^ 53 → float_of (placed s (minus k 1022) 53 q) ≡ odd 54 s q k 1074
unfolding placed
placed_float s k q q0 h = go (ℕ_discrete q (2 ^ 53))
  where
    go : Dec (q ≡ 2 ^ 53) → float_of (placed s (minus k 1022) 53 q) ≡ odd 54 s q k 1074
    go (yes e) =
        rw (eq-eqb q (2 ^ 53) e, suc_minus k 1022)
        (float_minus s (suc k) 1022 (2 ^ 63)
        ∙ odd_times 10 54 s (2 ^ 53) (suc k) 1085 (lit< tt)
        ∙ odd_moved 54 s (2 ^ 53) (10 + suc k) 1085 k 1074 (omega arith)
        ∙ ap (λ (m : ℕ). odd 54 s m k 1074) (sym e))
    go (no n) =
        rw (ne_eqb q (2 ^ 53) n)
        (float_minus s k 1022 (q * 2 ^ 11)
        ∙ odd_times 11 53 s q k 1085 q0
        ∙ sym (odd_enough 53 s q (11 + k) 1085 q0 (omega arith))
        ∙ odd_moved 54 s q (11 + k) 1085 k 1074 (omega arith))

-- i − o is the exponent of a normal number
abbrev InRange : ℕ → ℕ → Type 0
InRange i o = (o ≤ i + lowest_normal) × (i ≤ o + highest_normal)

-- what a normal result says of the exponent i − o, with a carry and without one
abbrev Carried : ℕ → ℕ → ℕ → Type 0
Carried i o q = ((q ≡ 2 ^ 53) × InRange (suc i) o) ⊎ ((q ≡ 2 ^ 53 → ⊥) × InRange i o)

normal_range : (s : Bool) (i o q : ℕ) → is_normal_or_zero (placed s (minus i o) 53 q) ≡ true → Carried i o q
unfolding is_normal_or_zero placed
normal_range s i o q h = go (ℕ_discrete q (2 ^ 53))
  where
    range : (i S : ℕ) → is_fit (is_between (neg_ℤ (pos lowest_normal)) (pos highest_normal)) (Finite s (minus i o) S) ≡ true → InRange i o
    range i S h = between_range lowest_normal highest_normal i o (fit_parts (is_between (neg_ℤ (pos lowest_normal)) (pos highest_normal)) s (minus i o) S h).0

    go : Dec (q ≡ 2 ^ 53) → Carried i o q
    go (yes e) = inl (e, range (suc i) (2 ^ 63) (rw (eq-eqb q (2 ^ 53) e, suc_minus i o) at h))
    go (no n) = inr (n, range i (q * 2 ^ 11) (rw (ne_eqb q (2 ^ 53) n) at h))

-- ---- rounding

-- nothing overflows below 2^(emax + 1)
units_odd : (f : Format) (s : Bool) (q k : ℕ) → q * 2 ^ k < 2 ^ (low f + suc (emax f)) → units f s q k ≡ odd (suc (prec f)) s q k (low f)
unfolding units
units_odd f s q k h = rw (lt-ltb (q * 2 ^ k) (2 ^ (low f + suc (emax f))) h)

-- the exponent by the count z of bits of the whole part of a / b × 2^(o + m), where z is above m
exponent_by_size : (a b o m z : ℕ) → 0 < a → 0 < b → m < z → a * 2 ^ (o + m) / b < 2 ^ z → ((j : ℕ) → j < z → 2 ^ j ≤ a * 2 ^ (o + m) / b)
    → exponent_of a b ≡ minus (z - suc m) o
exponent_by_size a b o m z a0 b0 h l r =
    let k = z - suc m in
    let e : suc (m + k) ≡ z = omega arith in
    let least : 2 ^ (m + k) * b ≤ a * 2 ^ (o + m) = (le-div_iff_mul-le b0).0 (r (m + k) (omega arith)) in
    let most : a * 2 ^ (o + m) < 2 ^ z * b = (div-lt_iff_lt-mul b0).0 l in
    let n = ap (λ (n : ℕ). n * b) (pow-add 2 m k) in
    let w = ap (λ (n : ℕ). a * n) (pow-add 2 o m) in
    exponent_unique a b k o a0 b0
    (le_of_mul-le-mul_right {k = 2 ^ m} (omega (arith, n, w)) (pow_pos m))
    (lt_of_mul-lt-mul_right (2 ^ m) (omega (arith, n, w, ap (λ (n : ℕ). n * b) (sym (pow-succ' 2 (m + k)) ∙ ap (λ (n : ℕ). 2 ^ n) e))))

-- one fraction over two denominators, u / v being p / o
scaled_cross : (a b m o w p u v : ℕ) → w ≡ o * m → b * u * o ≡ b * p * v → a * m * v * (b * p) ≡ a * w * (b * u)
scaled_cross a b m o w p u v e h = omega (arith, ap (λ (n : ℕ). a * m * n) h, ap (λ (n : ℕ). a * b * u * n) e)

-- a / b just below P, that counted in halves is made 2 P, is made P counted in wholes too
coarser : (s : Bool) (a b P : ℕ) → 0 < b → a ≤ P * b → whole_of Near s (2 * a) b ≡ 2 * P → whole_of Near s a b ≡ P
coarser s a b P b0 h e = le_antisymm most least
  where
    most : whole_of Near s a b ≤ P
    most = rw (whole_exact Near s P b b0) at (whole_monotone Near s a b (P * b) b b0 b0 (mul-le-mul_right b h))

    least : P ≤ whole_of Near s a b
    least = go (dec_le P (whole_of Near s a b))
      where
        go : Dec (P ≤ whole_of Near s a b) → P ≤ whole_of Near s a b
        go (yes l) = l
        go (no n) =
            let l : suc (whole_of Near s a b) ≤ P = lt_of_not-le n in
            absurd (omega (arith, mul-le-mul_right b l, whole_near a b b0 s, whole_near (2 * a) b b0 s, ap (λ (m : ℕ). m * b) e))

-- the rounding of Float.Ieee of std is q × 2^k units, from its unit 2^k on
at_unit : (s : Bool) (a b k q : ℕ) → size (a * 2 ^ low binary64 / b) - 53 ≡ k → closest (a * 2 ^ low binary64) (b * 2 ^ k) ≡ q
    → q * 2 ^ k < 2 ^ (low binary64 + suc (emax binary64)) → ieee.round binary64 s a b ≡ odd 54 s q k 1074
at_unit s a b k q e f l =
    round_is binary64 s a b
    ∙ ap (λ (z : ℕ). core binary64 s (a * 2 ^ low binary64) b z) e
    ∙ ap (λ (z : ℕ). units binary64 s z k) f
    ∙ units_odd binary64 s q k l

-- zero is made zero
zero_round : (b : ℕ) → 0 < b → ieee.round binary64 false 0 b ≡ fin false 0 (pos 0)
unfolding odd
zero_round b b0 =
    let k = size (0 * 2 ^ low binary64 / b) - 53 in
    let u = b * 2 ^ k in
    at_unit false 0 b k 0 refl
    (sym (near_closest false 0 u) ∙ ap (λ (m : ℕ). whole_of Near false m u) (sym (zero-mul u)) ∙ whole_exact Near false 0 u (mul-pos b0 (pow_pos k)))
    (rw (zero-mul (2 ^ k)) (lit< tt))

-- q × 2^k does not overflow
normal_below : (k q : ℕ) → q ≤ 2 ^ 53 → Carried k 1022 q → q * 2 ^ k < 2 ^ (low binary64 + suc (emax binary64))
normal_below k q h (inl (e, r)) = lt_of_lt_of_le (shl_lt 54 k (let l : q < 2 ^ 54 = omega arith in l)) (pow_mono (let l : 54 + k ≤ 2098 = omega arith in l))
normal_below k q h (inr (n, r)) = lt_of_lt_of_le (shl_lt 53 k (let l : q < 2 ^ 53 = omega arith in l)) (pow_mono (let l : 53 + k ≤ 2098 = omega arith in l))

-- 2^(i − o) ≤ a / b < 2^(m − l): the exponents are in that order
below_unit : (a b i o l m : ℕ) → b * 2 ^ i ≤ a * 2 ^ o → a * 2 ^ l < 2 ^ m * b → i + l < m + o
below_unit a b i o l m h k =
    pow_below (i + l) (m + o)
    (rw (pow-add 2 i l, pow-add 2 m o)
    (lt_of_mul-lt-mul_right b (omega (arith, mul-le-mul_right (2 ^ l) h, mul-lt-mul_of_pos_right {k = 2 ^ o} k (pow_pos o)))))

-- a / b × 2 w is a m v / b, where 2 w is m v
halves_cross : (a b m v w : ℕ) → 2 * w ≡ m * v → 2 * (a * w) * (b * 1) ≡ a * m * v * b
halves_cross a b m v w e = omega (arith, ap (λ (n : ℕ). a * b * n) e)

module _ (s : Bool) (a b : ℕ) (a0 : 0 < a) (b0 : 0 < b) (fit : is_normal_or_zero (rounded_at (exponent_of a b) Near 53 s a b) ≡ true) where
  -- what a / b, of the exponent e, is made in units of its own last place
  abbrev q : ℤ → ℕ
  q e = whole_of Near s (scaled_numerator 53 e a) (scaled_denominator e b)

  -- both accounts round ± a / b alike
  abbrev Same : Type 0
  Same = ieee.round binary64 s a b ≡ float_of (rounded_at (exponent_of a b) Near 53 s a b)

  -- the count of bits of the whole part, in units of 2^−1074
  abbrev z : ℕ
  z = size (a * 2 ^ low binary64 / b)

  -- with 53 bits or more Float.Ieee of std counts in units of the last place too
  above_least : 53 ≤ z → Same
  unfolding rounded_at scaled_numerator scaled_denominator
  above_least h =
      rw exponent
      (at_unit s a b k (q e) refl same (normal_below k (q e) most (normal_range s k 1022 (q e) (rw exponent at fit)))
      ∙ sym (placed_float s k (q e) (lt_of_lt_of_le (lit< tt) least) most))
    where
      k : ℕ
      k = z - 53

      e : ℤ
      e = minus k 1022

      exponent : exponent_of a b ≡ minus k 1022
      exponent = exponent_by_size a b 1022 52 z a0 b0 h (size-lt (a * 2 ^ low binary64 / b)) (size_reaches (a * 2 ^ low binary64 / b))

      least : 2 ^ 52 ≤ q e
      least = rw exponent at (units_low Near 53 s a b a0 b0 (lit≤ tt))

      most : q e ≤ 2 ^ 53
      most = rw exponent at (units_high Near 53 s a b a0 b0 (lit≤ tt))

      same : closest (a * 2 ^ low binary64) (b * 2 ^ k) ≡ q e
      same =
          sym (near_closest s (a * 2 ^ 52 * down e) (b * up e)
          ∙ closest_same (a * 2 ^ 52 * down e) (b * up e) (a * 2 ^ low binary64) (b * 2 ^ k) (mul-pos b0 (up_pos e)) (mul-pos b0 (pow_pos k))
          (scaled_cross a b (2 ^ 52) (2 ^ 1022) (2 ^ low binary64) (2 ^ k) (up e) (down e) (pow-add 2 1022 52) (minus_val b k 1022)))

  -- With fewer bits a result that is normal is ±2^−1022, and x is at most a quarter of the unit 2^−1074 below it.
  below_least : z < 53 → Same
  unfolding rounded_at scaled_numerator scaled_denominator placed
  below_least h = go (normal_range s i o (q (minus i o)) (rw known at fit))
    where
      i : ℕ
      i = (reached a b a0 b0).0

      o : ℕ
      o = (reached a b a0 b0).1

      known : exponent_of a b ≡ minus i o
      known = named a b a0 b0

      small : a * 2 ^ low binary64 < 2 ^ 52 * b
      small = (div-lt_iff_lt-mul b0).0 (lt_of_lt_of_le (size-lt (a * 2 ^ low binary64 / b)) (pow_mono (let l : z ≤ 52 = omega arith in l)))

      far : i + 1074 < 52 + o
      far = below_unit a b i o 1074 52 (reached a b a0 b0).2 small

      at : exponent_of a b ≡ minus 0 1023 → q (exponent_of a b) ≡ 2 ^ 53 → Same
      at e f =
          let g : q (minus 0 1023) ≡ 2 ^ 53 = rw e at f in
          rw (e, g)
          (at_unit s a b 0 (2 ^ 52) (let l : z - 53 ≡ 0 = omega arith in l)
          (ap (λ (u : ℕ). closest (a * 2 ^ low binary64) u) (mul-one b)
          ∙ sym (near_closest s (a * 2 ^ low binary64) b)
          ∙ coarser s (a * 2 ^ low binary64) b (2 ^ 52) b0 (le_of_lt small)
          (whole_alone (2 * (a * 2 ^ low binary64)) b (a * 2 ^ 52 * 2 ^ 1023) (b * 1) b0 (mul-pos b0 (lit< tt))
          (halves_cross a b (2 ^ 52) (2 ^ 1023) (2 ^ low binary64) refl) Near s
          ∙ g))
          (lit< tt)
          ∙ sym (placed_float s 0 (2 ^ 52) (lit< tt) (lit≤ tt)))

      go : Carried i o (q (minus i o)) → Same
      go (inl (e, r)) = at (known ∙ minus_same i o 0 1023 (omega (arith, far))) (rw known e)
      go (inr (n, r)) = absurd (omega (arith, far))

  either : Same
  either = go (dec_le 53 z)
    where
      go : Dec (53 ≤ z) → Same
      go (yes h) = above_least h
      go (no n) = below_least (lt_of_not-le n)

-- Near to 53 bits is IEEE 754's rounding to binary64, wherever near to 53 bits gives a normal number or zero.
pub near_is_ieee : (x : Fraction) → IsFraction x → is_normal_or_zero (round Near 53 x) ≡ true
    → ieee.round binary64 (is_negative x.numerator) (nat_abs x.numerator) x.denominator ≡ float_of (round Near 53 x)
unfolding is_negative round float_of
near_is_ieee x x0 fit = go (ℕ_discrete (nat_abs x.numerator) 0)
  where
    go : Dec (nat_abs x.numerator ≡ 0)
        → ieee.round binary64 (is_negative x.numerator) (nat_abs x.numerator) x.denominator ≡ float_of (round Near 53 x)
    go (yes e) = rw (abs_zero x.numerator e) (zero_round x.denominator x0)
    go (no n) =
        let some = ne_eqb (nat_abs x.numerator) 0 n in
        rw some (either (is_negative x.numerator) (nat_abs x.numerator) x.denominator (pos_of_ne-zero n) x0 (rw some at fit))

-- Known values: 1 / 3; in magnitude a quarter of the unit 2^−1074 below 2^−1022, which both make 2^−1022; half a unit below it, which near to 53 bits keeps
-- and binary64 makes 2^−1022, so that it is not enough that binary64's result is normal; and one and a half units, which binary64 makes two.
third : ieee.round binary64 false 1 3 ≡ float_of (round Near 53 (record { numerator = pos 1; denominator = 3 }))
unfolding ieee.round float_of is_negative settled exponent_of scaled_numerator scaled_denominator goes_up whole_of placed rounded_at round
third = refl

least : (float_of (round Near 53 (record { numerator = negsuc (2 ^ 54 - 2); denominator = 2 ^ 1076 })) ≡ fin true 1 (negsuc 1021))
    × (ieee.round binary64 true (2 ^ 54 - 1) (2 ^ 1076) ≡ fin true 1 (negsuc 1021))
unfolding ieee.round float_of is_negative settled exponent_of scaled_numerator scaled_denominator goes_up whole_of placed rounded_at round
least = (refl, refl)

half_below : (float_of (round Near 53 (record { numerator = pos (2 ^ 53 - 1); denominator = 2 ^ 1075 })) ≡ fin false (2 ^ 53 - 1) (negsuc 1074))
    × (ieee.round binary64 false (2 ^ 53 - 1) (2 ^ 1075) ≡ fin false 1 (negsuc 1021))
unfolding ieee.round float_of is_negative settled exponent_of scaled_numerator scaled_denominator goes_up whole_of placed rounded_at round
half_below = (refl, refl)

too_small : (float_of (round Near 53 (record { numerator = pos 3; denominator = 2 ^ 1075 })) ≡ fin false 3 (negsuc 1074))
    × (ieee.round binary64 false 3 (2 ^ 1075) ≡ fin false 1 (negsuc 1072))
unfolding ieee.round float_of is_negative settled exponent_of scaled_numerator scaled_denominator goes_up whole_of placed rounded_at round
too_small = (refl, refl)
