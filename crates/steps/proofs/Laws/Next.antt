-- The four exact steps after a digit, 12 to 15 and again 18 to 21, 24 to 27: the remainder less the digit's products with the halves of the divisor.
use mathlib.Core.Path.{◌≡◌, refl, sym, ap, ◌∙◌}
use mathlib.Core.Bool.{Bool, true}
use Prim.Native.Nat.{ℕ, suc, ◌+◌, ◌-◌, ◌*◌, ◌^◌, ◌≤◌, ◌<◌}
use native.Mathlib.Nat.{eq_of_mul-eq-mul_right, mul-le-mul, mul-lt-mul_of_pos_right, pow-succ'}
use native.Mathlib.Omega.{arith}
use lib.Dec.{lit≤}
use lib.Ieee.{minus, unlike}
use lib.IntN.{pos, ◌+ℤ◌}
use lib.Pow.{pow-add, pow_mono, pow_pos}
use Rattle.numbers.specs.Biased.{bias, origin, highest_biased}
use Rattle.numbers.specs.Number.{is_working}
use Rattle.numbers.specs.Fraction.{Fraction, value, difference, product, IsScaled}
use Rattle.numbers.specs.Answer.{given, rounded}
use Rattle.numbers.specs.Rounding.{claim}
use Rattle.numbers.specs.declared.number.Number.{Number}
use Rattle.numbers.specs.declared.number.Number.TheVariants.{Zero, Finite}
use Rattle.numbers.proofs.Laws.Bias.{biased_working}
use Rattle.numbers.proofs.Laws.Powers.{pow_below, power_sum}
use Rattle.numbers.proofs.Laws.Ratio.{Ratio, gap, ratio_gap}
use Rattle.numbers.proofs.Laws.Signs.{unlike_twice}
use Rattle.numbers.proofs.Laws.Working.{IsWorkingFinite, working_parts}
use Rattle.numbers.proofs.Laws.Exact.{product_scaled, less_sign, difference_scaled, less_twice_scaled, restored}
use Rattle.numbers.proofs.Laws.Scaled.{origin_is, finite_scaled, moved, finer, coarser, scaled_size, equal_scaled, same_amount, below_scaled}
use Rattle.numbers.proofs.Laws.Tasks.{IsClaimed, claimed_scaled}
use Rattle.division.proofs.Laws.Quotients.{quotient_below}
use Rattle.division.proofs.Laws.Range.{half, half_is, half_square, InRange, IsBounded, lowest_admissible, highest_admissible}
use Rattle.steps.proofs.Laws.Estimate.{half_parts}
use Rattle.steps.proofs.Laws.Remainder.{first_fits, unit_most, unit_least}
use Rattle.steps.proofs.Laws.Terms.{IsHalves, HasNext, lowest_after}

-- ---- the remainder y after a digit q: A units less P units, where the product of q and the divisor is P units

module _ {s t : Bool} {b D A P i : ℕ} (d x q y : Number) (D0 : 0 < D) (divisor : IsScaled (value d) s D b origin) (near : gap A P < D)
    (before : IsScaled (value x) t A i (origin + 64)) (taken : IsScaled (product (value q) (value d)) t P i (origin + 64))
    (after : IsScaled (value y) (less_sign t A P) (gap A P) i (origin + 64)) where
  pub after_digit : (c : ℕ) (h l high low less : Number) → rounded (claim 64) (product (value q) (value h)) ≡ given high → rounded (claim 64) (product (value q) (value l)) ≡ given low
      → rounded (claim 64) (difference (value x) (value high)) ≡ given less → rounded (claim 64) (difference (value less) (value low)) ≡ given y → IsBounded c y
      → HasNext b D i c d h l x q
  after_digit c h l high low less high_step low_step less_step next_step remainder = record {
    high = high;
    low = low;
    less = less;
    next = y;
    high_step = high_step;
    low_step = low_step;
    less_step = less_step;
    next_step = next_step;
    rest = equal_scaled before (restored A P taken after);
    remainder = remainder;
    under =
        (below_scaled (value y) D i (origin + 64)).1
        (rw (scaled_size after) (mul-lt-mul_of_pos_right {k = (value y).denominator} (mul-lt-mul_of_pos_right {k = 2 ^ i} near (pow_pos i)) after.positive));
    below_unit = quotient_below D0 divisor after near;
  }

-- ---- what is left is zero or has a top bit again

module _ {y : Fraction} {s t : Bool} {Z i a S : ℕ} (own : IsScaled y t S a origin) (amount : IsScaled y s Z i (origin + 64))
    (top : 2 ^ 63 ≤ S) (word : S < 2 ^ 64) (small : Z < 2 ^ 64) where
  same_size : S * 2 ^ a * 2 ^ 64 ≡ Z * 2 ^ i
  same_size = level (S * 2 ^ a) (Z * 2 ^ i) (2 ^ origin) (2 ^ (origin + 64)) (pow_pos origin) (pow-add 2 origin 64) (same_amount own amount)
    where
      level : (M N o p : ℕ) → 0 < o → p ≡ o * 2 ^ 64 → M * p ≡ N * o → M * 2 ^ 64 ≡ N
      level M N o p o0 e f = eq_of_mul-eq-mul_right o o0 (M * 2 ^ 64) N (omega (arith, ap (λ (n : ℕ). M * n) e))

  exponent_least : i < 64 + (a + 64)
  exponent_least =
      pow_below i (64 + (a + 64))
      (rw (pow-add 2 64 (a + 64), pow-add 2 a 64) (unit_most (2 ^ 64) (2 ^ a) (2 ^ i) S Z (omega arith) word small (pow_pos a) (pow_pos i) same_size))

  exponent_most : a + 64 < suc i
  exponent_most =
      pow_below (a + 64) (suc i)
      (rw (pow-add 2 a 64, pow-succ' 2 i) (unit_least (2 ^ 64) (2 ^ a) (2 ^ i) S Z (omega arith) word small (pow_pos a) (pow_pos i) same_size))

is_bounded : (c : ℕ) {s : Bool} {Z i : ℕ} (y : Number) → is_working y ≡ true → IsScaled (value y) s Z i (origin + 64) → Z < 2 ^ 64 → c + 127 ≤ i → i ≤ highest_admissible + 63 → IsBounded c y
is_bounded c Zero fit amount small low high = tt
is_bounded c {i = i} (Finite t e S) fit amount small low high = go (working_parts (Finite t e S) t e S fit refl)
  where
    go : IsWorkingFinite e S → IsBounded c (Finite t e S)
    go is = biased (biased_working e is.exponent)
      where
        biased : (a : ℕ) × (e +ℤ pos bias ≡ pos a) × (a ≤ highest_biased) × (e ≡ minus a bias) → IsBounded c (Finite t e S)
        biased (a, added, range, k) =
            let own = finite_scaled t a S k in
            let least = exponent_least own amount is.top is.word small in
            let most = exponent_most own amount is.top is.word small in
            (a, k, record { lowest = omega arith; highest = omega arith; top = is.top; word = is.word })

-- ---- the four steps, after a digit of m units from which k bits were dropped

module _ (s t : Bool) (b D a R : ℕ) (d h l x q : Number) (divisor : InRange lowest_admissible b D) (is : IsScaled (value d) s D b origin) (halves : IsHalves s b D h l)
    (range : InRange (lowest_after 3) a R) (k left m : ℕ) (word : left + k ≡ 64) (least : 39 ≤ k) (most : k ≤ 41) (bits : m ≤ 2 ^ 24)
    (before : IsScaled (value x) t (R * 2 ^ left) (k + a) (origin + 64)) (digit : IsScaled (value q) (unlike t s) m (k + a) (b + 64))
    (near : gap (R * 2 ^ left) (m * D) < D) where
  digit_times : {N j : ℕ} (z : Number) → IsScaled (value z) s N j origin → IsScaled (product (value q) (value z)) t (m * N) (k + a + j) (b + 64 + origin)
  digit_times z e = rw (unlike_twice t s) at (product_scaled digit e)

  taken : IsScaled (product (value q) (value d)) t (m * D) (k + a) (origin + 64)
  taken = moved (digit_times d is) (omega arith)

  part : {N j : ℕ} (z : Number) → N < half → b ≤ j → j ≤ b + 32 → IsScaled (value z) s N j origin → IsClaimed 64 (product (value q) (value z)) t (m * N) (k + a + j) (b + 64 + origin)
  part {N} z small low high e =
      claimed_scaled 64 (digit_times z e) (lit≤ tt) (lit≤ tt) (short (rw half_is at small)) (omega (arith, origin_is)) (omega (arith, origin_is))
    where
      short : N < 2 ^ 32 → m * N < 2 ^ 64
      short h = omega (arith, mul-le-mul bits h)

  high : IsClaimed 64 (product (value q) (value h)) t (m * halves.high) (k + a + (b + 32)) (b + 64 + origin)
  high = part h halves.high_word (omega arith) (omega arith) halves.high_amount

  low : IsClaimed 64 (product (value q) (value l)) t (m * halves.low) (k + a + b) (b + 64 + origin)
  low = part l halves.low_word (omega arith) (omega arith) halves.low_amount

  -- x less the first product, as a multiple of the remainder's last bit
  half_power : 2 ^ (k - 32) * 2 ^ left ≡ half
  half_power = sym (power_sum 32 (k - 32) left (omega arith)) ∙ sym half_is

  lesser : ℕ
  lesser = gap R (m * halves.high * 2 ^ (k - 32))

  less_size : gap (R * 2 ^ left) (m * halves.high * 2 ^ 32) ≡ lesser * 2 ^ left
  unfolding lesser
  less_size =
      let X = m * halves.high * 2 ^ (k - 32) in
      let e : X * 2 ^ left ≡ m * halves.high * 2 ^ 32 * 1 = omega (arith, ap (λ (n : ℕ). m * halves.high * n) (half_power ∙ half_is)) in
      let r : Ratio R X (2 ^ left) (R * 2 ^ left) (m * halves.high * 2 ^ 32) 1 = record { scale = pow_pos left; first = omega arith; second = e } in
      omega (arith, ratio_gap r)

  less_fits : lesser < 2 ^ 64
  unfolding lesser
  less_fits =
      rw half_square at
      (first_fits (half * half) R D (2 ^ k) (2 ^ left) (pow_pos k) (half_parts left k word) half (2 ^ (k - 32)) m halves.high halves.low half_power halves.whole
      (rw half_square range.word) (rw half_square divisor.word) (rw half_square (pow_mono {j = 64} (omega arith))) near)

  less_sign_is : Bool
  less_sign_is = less_sign t (R * 2 ^ left) (m * halves.high * 2 ^ 32)

  less : IsClaimed 64 (difference (value x) (value high.number)) less_sign_is lesser a origin
  unfolding less_sign_is
  less =
      claimed_scaled 64
      (coarser lesser left (rw less_size at (difference_scaled before (finer high.amount 32 (omega arith)))) (omega (arith, word)))
      (lit≤ tt) (lit≤ tt) less_fits (omega (arith, origin_is)) (omega (arith, origin_is))

  next : IsClaimed 64 (difference (value less.number) (value low.number)) (less_sign t (R * 2 ^ left) (m * D)) (gap (R * 2 ^ left) (m * D)) (k + a) (origin + 64)
  unfolding less_sign_is
  next =
      let A = R * 2 ^ left in
      let B = m * halves.high * 2 ^ 32 in
      let whole : B + m * halves.low ≡ m * D = omega (arith, ap (λ (n : ℕ). m * n) halves.whole, ap (λ (n : ℕ). m * halves.high * n) half_is) in
      let units : IsScaled (value less.number) less_sign_is (gap A B) (k + a) (origin + 64) = rw less_size (finer less.amount left (omega (arith, word))) in
      claimed_scaled 64 (rw whole at (less_twice_scaled A B units (moved low.amount (omega arith))))
      (lit≤ tt) (lit≤ tt) (omega arith) (omega (arith, origin_is)) (omega (arith, origin_is))

  pub has_next : (c : ℕ) → c + 127 ≤ k + a → HasNext b D (k + a) c d h l x q
  has_next c enough =
      after_digit d x q next.number (omega arith) is near before taken next.amount c h l high.number low.number less.number
      high.step low.step less.step next.step (is_bounded c next.number next.fit next.amount (omega arith) enough (omega arith))
