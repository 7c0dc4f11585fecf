-- Powers of two: in products, against each other, and 2^e as one power over another.
use mathlib.Core.Path.{◌≡◌, refl, sym, ap, ap₂, ◌∙◌}
use Prim.Native.Nat.{ℕ, zero, suc, ◌+◌, ◌-◌, ◌*◌, ◌^◌, ◌≤◌, ◌<◌}
use native.Mathlib.Decide.{dec_le}
use native.Mathlib.Nat.{lt_of_le_of_lt, lt_of_not-le, not-le_of_lt, pow-succ'}
use native.Mathlib.Omega.{arith}
use lib.Dec.{lit<}
use lib.Ieee.{size, up, down}
use lib.Ieee.Digits.{size-lt, size_reaches}
use lib.IntN.{ℤ, pos, negsuc}
use lib.Pow.{pow-add, pow_mono}

-- a power by its exponent's parts
pub power_sum : (c a b : ℕ) → c ≡ a + b → 2 ^ c ≡ 2 ^ a * 2 ^ b
power_sum c a b e = ap (λ (n : ℕ). 2 ^ n) e ∙ pow-add 2 a b

-- 2^(n - 1) × 2 × 2^(t - n) is 2^t
pub power_parts : (n t : ℕ) → 1 ≤ n → n ≤ t → 2 ^ (n - 1) * (2 * 2 ^ (t - n)) ≡ 2 ^ t
power_parts n t n0 h = omega (arith, pow-succ' 2 (t - n), power_sum t (n - 1) (suc (t - n)) (omega arith), ap (λ (m : ℕ). 2 ^ (n - 1) * m) (pow-succ' 2 (t - n)))

-- twice 2^(n - 1) is 2^n, and in a word 2^(n - 1) is followed by 64 - n bits
pub power_twice : (n : ℕ) → 1 ≤ n → 2 ^ n ≡ 2 * 2 ^ (n - 1)
power_twice n n0 = power_sum n 1 (n - 1) (omega arith)

pub word_parts : (n : ℕ) → 1 ≤ n → n ≤ 64 → 2 ^ (n - 1) * 2 ^ (64 - n) ≡ 2 ^ 63
word_parts n n0 n1 = sym (power_sum 63 (n - 1) (64 - n) (omega arith))

pub word_power : (n : ℕ) → n ≤ 64 → 2 ^ n * 2 ^ (64 - n) ≡ 2 ^ 64
word_power n h = sym (power_sum 64 n (64 - n) (omega arith))

-- a number is below its own power
pub below_power : (n : ℕ) → n < 2 ^ n
below_power zero = lit< tt
below_power (suc n) = omega (arith, below_power n, pow-succ' 2 n)

-- the top bit of a number
pub top_bit : (F : ℕ) → 0 < F → (t : ℕ) × (2 ^ t ≤ F) × (F < 2 ^ suc t)
top_bit F F0 = go (size F) (size-lt F) (size_reaches F)
  where
    go : (s : ℕ) → F < 2 ^ s → ((j : ℕ) → j < s → 2 ^ j ≤ F) → (t : ℕ) × (2 ^ t ≤ F) × (F < 2 ^ suc t)
    go zero l r = absurd (let k : F < 1 = l in omega arith)
    go (suc t) l r = (t, r t (omega arith), l)

pub pow_below : (x y : ℕ) → 2 ^ x < 2 ^ y → x < y
pow_below x y h = go (dec_le y x)
  where
    go : Dec (y ≤ x) → x < y
    go (yes l) = absurd (not-le_of_lt h (pow_mono l))
    go (no n) = lt_of_not-le n

pub below_top : (n t F : ℕ) → 2 ^ n ≤ F → F < 2 ^ suc t → n ≤ t
below_top n t F h k = let l : n < suc t = pow_below n (suc t) (lt_of_le_of_lt h k) in omega arith

-- a product of two powers that is at most F, or above it
pub powers_below : (i j k F : ℕ) → 2 ^ i * 2 ^ j ≤ F → F < 2 ^ k → i + j < k
powers_below i j k F low high = pow_below (i + j) k (rw (pow-add 2 i j) (lt_of_le_of_lt low high))

pub below_powers : (i j k F : ℕ) → 2 ^ k ≤ F → F < 2 ^ i * 2 ^ j → k < i + j
below_powers i j k F low high = pow_below k (i + j) (rw (pow-add 2 i j) (lt_of_le_of_lt low high))

-- ---- which numbers are powers

-- A is 2^a
abbrev pub IsPower : ℕ → Type 0
IsPower A = (a : ℕ) × (A ≡ 2 ^ a)

pub power_product : (A B : ℕ) → IsPower A → IsPower B → IsPower (A * B)
power_product A B (a, e) (b, f) = (a + b, ap₂ ◌*◌ e f ∙ sym (pow-add 2 a b))

pub up_power : (e : ℤ) → IsPower (up e)
up_power (pos k) = (k, refl)
up_power (negsuc k) = (0, refl)

pub down_power : (e : ℤ) → IsPower (down e)
down_power (pos k) = (0, refl)
down_power (negsuc k) = (suc k, refl)

-- of two powers the one that is not less is a multiple of the other
pub powers_divide : (A B : ℕ) → IsPower A → IsPower B → A < 2 * B → (t : ℕ) × (B ≡ t * A)
powers_divide A B (a, e) (b, f) h =
    let l : a < suc b = pow_below a (suc b) (rw (pow-succ' 2 b, ← e, ← f) h) in
    (2 ^ (b - a), f ∙ power_sum b (b - a) a (omega arith) ∙ ap (λ (n : ℕ). 2 ^ (b - a) * n) (sym e))
