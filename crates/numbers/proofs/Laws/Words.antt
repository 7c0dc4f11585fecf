-- Numbers of two words, high * w + low, at any size w of a word: what products and shifts make of them.
use mathlib.Core.Path.{◌≡◌, refl, sym, ◌∙◌}
use mathlib.Core.Bool.{true, false}
use Prim.Native.Nat.{ℕ, zero, suc, ◌+◌, ◌-◌, ◌*◌, ◌/◌, ◌%◌, ◌^◌, ◌≤◌, ◌<◌}
use native.Mathlib.Nat.{le-add_right, le_trans, le_of_suc-le-suc, lt_of_le_of_lt, zero-lt-suc, lt_of_mul-lt-mul_right, add-zero, zero-mul, mul_comm, mul-pos, mul-le-mul, mul-le-mul_right, mul-mod_left, mul-div_cancel, mul-div-mul_right, mul-add-div_right, mul-add-mod_self_right, mod-lt, mod-one, mod-eq_of_lt, div-one, div-eq_of_lt, div-lt_iff_lt-mul, div-add-mod', div-div-eq-div-mul, pos_of_ne-zero, suc-add}
use native.Mathlib.Omega.{arith}
use lib.Count.{count_leading_zeros, leading_top}
use lib.Dec.{ltb}
use lib.Arith.{digits_lt, digits_div, digits_mod, mod-mul}
use lib.Pow.{pow-add, pow_pos, shl_lt}
use borrow.Author.Tests.{lt-ltb}
use Rattle.numbers.proofs.Laws.Powers.{power_sum}

-- a product of two digits to the base P leaves room for two more
pub digits_product : (P x y : ℕ) → x < P → y < P → x * y + 2 * P ≤ P * P + 1
digits_product zero x y hx hy = omega arith
digits_product (suc n) x y hx hy = omega (arith, mul-le-mul (le_of_suc-le-suc hx) (le_of_suc-le-suc hy))

-- a bound on a number of two words bounds its high word
pub high_lt : (w n q r : ℕ) → q * w + r < n * w → q < n
high_lt w n q r h = lt_of_mul-lt-mul_right w (lt_of_le_of_lt (le-add_right (q * w) r) h)

-- a multiple is positive where the number is
positive_scaled : (x w : ℕ) → zero < w → ltb 0 (x * w) ≡ ltb 0 x
positive_scaled zero w h = rw zero-mul
positive_scaled (suc x) w h = lt-ltb 0 (suc x * w) (mul-pos (zero-lt-suc x) h) ∙ sym (lt-ltb 0 (suc x) (zero-lt-suc x))

-- n is a product of two positive numbers
pub record Factors (n p q : ℕ) : Type 0 where
  pub left_pos : zero < p
  pub right_pos : zero < q
  pub product : p * q ≡ n

pub swapped : {n p q : ℕ} → Factors n p q → Factors n q p
swapped {n} {p} {q} f = record { left_pos = f.right_pos; right_pos = f.left_pos; product = mul_comm q p ∙ f.product }

pub powers : (k n : ℕ) → k ≤ n → Factors (2 ^ n) (2 ^ (n - k)) (2 ^ k)
powers k n h = record {
  left_pos = pow_pos (n - k);
  right_pos = pow_pos k;
  product = sym (power_sum n (n - k) k (omega arith));
}

-- a shift right by no bits drops nothing
pub uncut : (n k : ℕ) → k ≡ 0 → (n ≡ n / 2 ^ k) × (false ≡ ltb 0 (n % 2 ^ k))
uncut n k e = rw (e, div-one, mod-one) (refl, refl)

-- a shift right by at least a number's bits drops the number
pub all_cut : (n k : ℕ) → n < 2 ^ k → (0 ≡ n / 2 ^ k) × (ltb 0 n ≡ ltb 0 (n % 2 ^ k))
all_cut n k h = rw (div-eq_of_lt h, mod-eq_of_lt h) (refl, refl)

-- shifts within a word of the size w, which is p * q: left by q and right by p
module _ {w p q : ℕ} (f : Factors w p q) where
  -- x * q by the word that leaves and the word that stays
  shifted : (x : ℕ) → x / p * w + x * q % w ≡ x * q
  shifted x = rw (← mul-div-mul_right x p f.right_pos, f.product) (div-add-mod' (x * q) w)

  -- what stays is what a shift right by p drops
  stays : (x : ℕ) → x * q % w ≡ x % p * q
  stays x = rw (← f.product, mod-mul (x * q) f.left_pos f.right_pos, mul-div_cancel x f.right_pos, mul-mod_left) (add-zero _)

  pub dropped : (x : ℕ) → ltb 0 (x * q % w) ≡ ltb 0 (x % p)
  dropped x = rw stays (positive_scaled (x % p) q f.right_pos)

  -- a shift left by q from which no bit is lost: its words, and that the high one is a word
  pub left : (h l : ℕ) → (h * w + l) * q < w * w → ((h * q % w + l / p) * w + l * q % w ≡ (h * w + l) * q) × (h * q % w + l / p < w)
  left h l b =
      let whole : (h * q % w + l / p) * w + l * q % w ≡ (h * w + l) * q = rw (mod-eq_of_lt (high_lt w w (h * q) (l * q) (omega arith))) (omega (arith, shifted l)) in
      (whole, high_lt w w (h * q % w + l / p) (l * q % w) (rw whole b))

  -- a shift right by p: its words, that the low one is a word, and whether something is dropped
  pub right : (h l : ℕ) → l < w → (h / p * w + (h * q % w + l / p) ≡ (h * w + l) / p) × (h * q % w + l / p < w) × (ltb 0 (l % p) ≡ ltb 0 ((h * w + l) % p))
  right h l b =
      let parts : h * w ≡ h * q * p = rw (← f.product) (omega arith) in (
        rw (parts, mul-add-div_right f.left_pos) (omega (arith, shifted h)),
        rw (stays, ← f.product) (digits_lt (mod-lt h f.left_pos) ((div-lt_iff_lt-mul f.left_pos).1 (rw (← f.product, mul_comm) at b))),
        rw (parts, mul-add-mod_self_right),
      )

-- shifts by a word of the size w and more: by p, which is m * w
module _ {p m w : ℕ} (f : Factors p m w) where
  pub left_word : (h l : ℕ) → (h * w + l) * p < w * w → l * m % w * w + 0 ≡ (h * w + l) * p
  left_word h l b =
      let short : (h * w + l) * m < w = high_lt w w ((h * w + l) * m) 0 (omega (arith, rw (← f.product) at b)) in
      let parts : h * m * w + l * m ≡ (h * w + l) * m = omega arith in
      rw (← mul-add-mod_self_right (h * m) w (l * m), parts, mod-eq_of_lt short, ← f.product) (omega arith)

  rest : (h l : ℕ) → l < w → (h * w + l) % p ≡ h % m * w + l
  rest h l b = rw (← f.product, mod-mul (h * w + l) f.left_pos f.right_pos, digits_div h b, digits_mod h b)

  pub right_word : (h l : ℕ) → l < w → (0 * w + h / m ≡ (h * w + l) / p) × (zero < l → true ≡ ltb 0 ((h * w + l) % p)) × (l ≤ zero → ltb 0 (h % m) ≡ ltb 0 ((h * w + l) % p))
  right_word h l b = (
    rw (← f.product, mul_comm m w, ← div-div-eq-div-mul, digits_div h b) (omega arith),
    (λ some. sym (lt-ltb 0 ((h * w + l) % p) (omega (arith, rest h l b)))),
    (λ none. let e : h % m * w + l ≡ h % m * w = omega arith in rw (rest h l b, e) (sym (positive_scaled (h % m) w f.right_pos))),
  )

-- a number whose top bit is bit j, shifted left to bring that bit to bit n
pub raised : (n j s a : ℕ) → s + suc j ≡ suc n → 2 ^ j ≤ a → a < 2 ^ suc j → (s ≤ n) × (2 ^ n ≤ a * 2 ^ s) × (a * 2 ^ s < 2 ^ suc n)
raised n j s a e lo hi =
    let low : n ≡ j + s = omega arith in
    let high : suc n ≡ suc j + s = omega arith in
    (omega arith, rw (low, pow-add) (mul-le-mul_right (2 ^ s) lo), rw high (shl_lt (suc j) s hi))

-- a word shifted left by its leading zeros
pub top_first : (a : ℕ) → (a ≡ 0 → ⊥) → a < 2 ^ 64 → (count_leading_zeros 64 a ≤ 63) × (2 ^ 63 ≤ a * 2 ^ count_leading_zeros 64 a) × (a * 2 ^ count_leading_zeros 64 a < 2 ^ 64)
top_first a some word = let t = leading_top 64 a (pos_of_ne-zero some) word in raised 63 t.0 (count_leading_zeros 64 a) a t.1 t.2 t.3

-- the top bit of a number of two words is its high word's
pub top : (k j h l : ℕ) → l < 2 ^ k → 2 ^ j ≤ h → h < 2 ^ suc j → (2 ^ (j + k) ≤ h * 2 ^ k + l) × (h * 2 ^ k + l < 2 ^ suc (j + k))
top k j h l b lo hi = (
  rw pow-add (le_trans (mul-le-mul_right (2 ^ k) lo) (le-add_right (h * 2 ^ k) l)),
  rw (← suc-add j k, pow-add) (digits_lt hi b),
)
