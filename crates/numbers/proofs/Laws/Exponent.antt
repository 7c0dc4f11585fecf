-- The exponent of a fraction is the one that its two inequalities name. Exponents are written i - o, with naturals i and o, so that
-- everything is decided among the naturals.
use mathlib.Core.Path.{◌≡◌, refl, ap, ◌∙◌}
use mathlib.Core.Logic.{◌⊎◌, inl, inr, ⊎_elim}
use Prim.Native.Nat.{ℕ, zero, suc, ◌+◌, ◌*◌, ◌^◌, ◌≤◌, ◌<◌}
use native.Mathlib.Omega.{arith}
use native.Mathlib.Nat.{mul-pos, mul-le-mul_right, mul-lt-mul_of_pos_right, le_of_lt, lt_of_lt_of_le, lt_of_le_of_lt, lt_of_mul-lt-mul_right, le_of_mul-le-mul_right, lt_of_not-le, pow-succ'}
use native.Mathlib.Decide.{dec_le}
use lib.IntN.{ℤ, pos, negsuc, suc_ℤ}
use lib.Dec.{leb-zero, leb-suc-zero}
use lib.Pow.{pow-add, pow_pos}
use lib.Ieee.{size, up, down, minus}
use lib.Ieee.Digits.{size-lt, size_reaches, minus_val}
use lib.Ieee.Fits.{up_pos, down_pos}
use borrow.Author.Tests.{le-leb, lt-leb}
use Rattle.numbers.specs.Rounding.{exponent_of, settled, scaled_denominator}
use Rattle.numbers.proofs.Laws.Minus.{minus_same, pred_minus}
use Rattle.numbers.proofs.Laws.Powers.{pow_below, top_bit}

-- the two digit counts differ by the exponent or by one more
sizes : (a b i o s t : ℕ) → 2 ^ s ≤ a → a < 2 ^ suc s → 2 ^ t ≤ b → b < 2 ^ suc t → b * 2 ^ i ≤ a * 2 ^ o → a * 2 ^ o < 2 * (b * 2 ^ i)
    → (s + o ≡ t + i) ⊎ (s + o ≡ t + i + 1)
sizes a b i o s t a0 a1 b0 b1 h k = pick (dec_le (s + o) (t + i))
  where
    low : t + i < suc s + o
    low = pow_below (t + i) (suc s + o) (rw (pow-add 2 t i, pow-add 2 (suc s) o) (lt_of_le_of_lt (mul-le-mul_right (2 ^ i) b0) (lt_of_le_of_lt h (mul-lt-mul_of_pos_right a1 (pow_pos o)))))

    high : s + o < suc (suc t + i)
    high = pow_below (s + o) (suc (suc t + i)) (rw (pow-add 2 s o) (lt_of_le_of_lt (mul-le-mul_right (2 ^ o) a0) (lt_of_lt_of_le k (omega (arith, mul-le-mul_right (2 ^ i) (le_of_lt b1), pow-add 2 (suc t) i)))))

    pick : Dec (s + o ≤ t + i) → (s + o ≡ t + i) ⊎ (s + o ≡ t + i + 1)
    pick (yes l) = inl (omega (arith, low))
    pick (no n) = inr (omega (arith, high))

-- the test at k = i - o, in the two inequalities' own terms
at_most : (a b i o : ℕ) → b * 2 ^ i ≤ a * 2 ^ o → b * up (minus i o) ≤ a * down (minus i o)
at_most a b i o h =
    le_of_mul-le-mul_right {k = 2 ^ o}
    (omega (arith, minus_val b i o, mul-le-mul_right (down (minus i o)) h)) (pow_pos o)

above : (a b i o : ℕ) → a * 2 ^ o < b * 2 ^ i → a * down (minus i o) < b * up (minus i o)
above a b i o h =
    lt_of_mul-lt-mul_right (2 ^ o)
    (omega (arith, minus_val b i o, mul-lt-mul_of_pos_right {k = down (minus i o)} h (down_pos (minus i o))))

kept : (a b i o : ℕ) → b * 2 ^ i ≤ a * 2 ^ o → settled (minus i o) a b ≡ minus i o
unfolding settled
kept a b i o h = rw (le-leb (b * up (minus i o)) (a * down (minus i o)) (at_most a b i o h))

lowered : (a b i o : ℕ) → a * 2 ^ o < b * 2 ^ suc i → settled (minus (suc i) o) a b ≡ minus i o
unfolding settled
lowered a b i o h =
    rw (lt-leb (b * up (minus (suc i) o)) (a * down (minus (suc i) o)) (above a b (suc i) o h))
    (pred_minus (suc i) o ∙ minus_same (suc i) (suc o) i o (omega arith))

-- the exponent that the two inequalities name
pub exponent_unique : (a b i o : ℕ) → 0 < a → 0 < b → b * 2 ^ i ≤ a * 2 ^ o → a * 2 ^ o < 2 * (b * 2 ^ i) → exponent_of a b ≡ minus i o
unfolding exponent_of
exponent_unique a b i o a0 b0 h k = go (size a) (size b) (size-lt a) (size_reaches a) (size-lt b) (size_reaches b)
  where
    go : (s t : ℕ) → a < 2 ^ s → ((j : ℕ) → j < s → 2 ^ j ≤ a) → b < 2 ^ t → ((j : ℕ) → j < t → 2 ^ j ≤ b) → settled (minus s t) a b ≡ minus i o
    go zero t a1 ar b1 br = absurd (let l : a < 1 = a1 in omega arith)
    go (suc s) zero a1 ar b1 br = absurd (let l : b < 1 = b1 in omega arith)
    go (suc s) (suc t) a1 ar b1 br =
        ⊎_elim
        (λ (e : s + o ≡ t + i). rw (minus_same (suc s) (suc t) i o (omega arith)) (kept a b i o h))
        (λ (e : s + o ≡ t + i + 1). rw (minus_same (suc s) (suc t) (suc i) o (omega arith)) (lowered a b i o (omega (arith, k, ap (λ (n : ℕ). b * n) (pow-succ' 2 i)))))
        (sizes a b i o s t (ar s (omega arith)) a1 (br t (omega arith)) b1 h k)

-- the same for an exponent e: 2^e is up e / down e
pub exponent_named : (a b : ℕ) (e : ℤ) → 0 < a → 0 < b → b * up e ≤ a * down e → a * down e < 2 * (b * up e) → exponent_of a b ≡ e
exponent_named a b (pos k) a0 b0 h l = exponent_unique a b k 0 a0 b0 h l ∙ rw (leb-zero k) (ap pos (omega arith))
exponent_named a b (negsuc k) a0 b0 h l = exponent_unique a b 0 (suc k) a0 b0 h l ∙ rw (leb-suc-zero k) (ap negsuc (omega arith))

-- and the exponent fulfils both: the difference of the two top bits does, or one less
module _ (a b : ℕ) (a0 : 0 < a) (b0 : 0 < b) where
  pub reached : (i : ℕ) × (o : ℕ) × (b * 2 ^ i ≤ a * 2 ^ o) × (a * 2 ^ o < 2 * (b * 2 ^ i))
  reached = go (top_bit a a0) (top_bit b b0)
    where
      go : (t : ℕ) × (2 ^ t ≤ a) × (a < 2 ^ suc t) → (t : ℕ) × (2 ^ t ≤ b) × (b < 2 ^ suc t)
          → (i : ℕ) × (o : ℕ) × (b * 2 ^ i ≤ a * 2 ^ o) × (a * 2 ^ o < 2 * (b * 2 ^ i))
      go (s, low, high) (t, least, most) = pick (dec_le (b * 2 ^ s) (a * 2 ^ t))
        where
          pick : Dec (b * 2 ^ s ≤ a * 2 ^ t) → (i : ℕ) × (o : ℕ) × (b * 2 ^ i ≤ a * 2 ^ o) × (a * 2 ^ o < 2 * (b * 2 ^ i))
          pick (yes l) = (s, t, l, omega (arith, mul-lt-mul_of_pos_right {k = 2 ^ t} high (pow_pos t), mul-le-mul_right (2 ^ s) least, ap (λ (m : ℕ). m * 2 ^ t) (pow-succ' 2 s)))
          pick (no n) =
              let l : a * 2 ^ t < b * 2 ^ s = lt_of_not-le n in
              (s, suc t, omega (arith, mul-le-mul_right (2 ^ s) most, mul-le-mul_right (2 ^ suc t) low, ap (λ (m : ℕ). a * m) (pow-succ' 2 t)), omega (arith, ap (λ (m : ℕ). a * m) (pow-succ' 2 t)))

  pub named : exponent_of a b ≡ minus reached.0 reached.1
  named = exponent_unique a b reached.0 reached.1 a0 b0 reached.2 reached.3

  pub exponent_reaches : b * up (exponent_of a b) ≤ a * down (exponent_of a b)
  exponent_reaches = rw named (at_most a b reached.0 reached.1 reached.2)

  pub exponent_below : a * down (exponent_of a b) < 2 * (b * up (exponent_of a b))
  exponent_below = rw named (omega (arith, above a (2 * b) reached.0 reached.1 (omega (arith, reached.3))))

-- 2^(e + 1) is twice 2^e
pub up_suc : (e : ℤ) → up (suc_ℤ e) * down e ≡ 2 * up e * down (suc_ℤ e)
up_suc (pos k) = omega (arith, pow-succ' 2 k)
up_suc (negsuc zero) = refl
up_suc (negsuc (suc k)) = omega (arith, pow-succ' 2 (suc k))

-- a scaled denominator is above 0
pub scaled_positive : (e : ℤ) (b : ℕ) → 0 < b → 0 < scaled_denominator e b
unfolding scaled_denominator
scaled_positive e b b0 = mul-pos b0 (up_pos e)
