-- What a task gives of ± N × 2^i / 2^o: an exact claim of enough bits holds, and a rounding to n bits drops last bits of N.
use mathlib.Core.Path.{◌≡◌, refl, sym, ap, ◌∙◌}
use mathlib.Core.Bool.{Bool, true, false, cond}
use Prim.Native.Nat.{ℕ, zero, suc, ◌+◌, ◌-◌, ◌*◌, ◌^◌, ◌≤◌, ◌<◌}
use native.Mathlib.Nat.{eq_of_mul-eq-mul_right, lt_of_le_of_lt, lt_of_lt_of_le, mul-pos, mul-le-mul_right, mul-lt-mul_of_pos_right, pow-succ'}
use native.Mathlib.Omega.{arith}
use lib.Dec.{eqb}
use lib.Ieee.{minus, up, down}
use lib.Ieee.Digits.{minus_val}
use lib.Ieee.Fits.{down_pos}
use lib.IntN.{ℤ, nat_abs, suc_ℤ}
use lib.Pow.{pow-add, pow_pos}
use Rattle.numbers.specs.Biased.{bias}
use Rattle.numbers.specs.Number.{is_working_exponent, is_working}
use Rattle.numbers.specs.Fraction.{Fraction, IsFraction, signed, value, is_negative, scaled, IsScaled}
use Rattle.numbers.specs.Rounding.{scaled_numerator, scaled_denominator, has_at_most_bits, whole_of, placed, round, by_mode, claim}
use Rattle.numbers.specs.Answer.{given, rounded, checked}
use Rattle.numbers.specs.declared.number.Number.{Number}
use Rattle.numbers.specs.declared.number.Number.TheVariants.{Zero, Finite}
use Rattle.numbers.specs.declared.task.Mode.{Mode}
use Rattle.numbers.specs.declared.task.Mode.TheVariants.{Trunc}
use Rattle.numbers.proofs.Laws.Pairs.{equal_through}
use Rattle.numbers.proofs.Laws.Minus.{suc_minus}
use Rattle.numbers.proofs.Laws.Bias.{working}
use Rattle.numbers.proofs.Laws.Bits.{bits_of_is, claim_holds}
use Rattle.numbers.proofs.Laws.Bounds.{kept}
use Rattle.numbers.proofs.Laws.Exponent.{scaled_positive, exponent_unique}
use Rattle.numbers.proofs.Laws.Fits.{round_placed, given_working, zero_working}
use Rattle.numbers.proofs.Laws.Powers.{power_twice, top_bit, pow_below, below_top}
use Rattle.numbers.proofs.Laws.Rounded.{IsUnits, exponent, numerator_at, denominator_at, whole, round_units}
use Rattle.numbers.proofs.Laws.Value.{whole_alone, rounded_zero}
use Rattle.numbers.proofs.Laws.Scaled.{zero_value, zero_scaled, signed_scaled, scaled_size, scaled_some, scaled_none, scaled_sign, value_fraction}

-- the exponent, by the top bit T of A
module _ {x : Fraction} {s : Bool} {A i o : ℕ} (h : IsScaled x s A i o) (T : ℕ) (t0 : 2 ^ T ≤ A) (t1 : A < 2 ^ suc T) where
  some : 0 < nat_abs x.numerator
  some = scaled_some h (lt_of_lt_of_le (pow_pos T) t0)

  scaled_exponent : exponent x ≡ minus (T + i) o
  scaled_exponent =
      exponent_unique (nat_abs x.numerator) x.denominator (T + i) o some h.positive
      (omega (arith, scaled_size h, ap (λ (n : ℕ). n * x.denominator) (pow-add 2 T i), mul-le-mul_right (2 ^ i * x.denominator) t0))
      (omega (
        arith,
        scaled_size h,
        ap (λ (n : ℕ). n * x.denominator) (pow-add 2 T i),
        ap (λ (n : ℕ). n * (2 ^ i * x.denominator)) (pow-succ' 2 T),
        mul-lt-mul_of_pos_right {k = 2 ^ i * x.denominator} t1 (mul-pos (pow_pos i) h.positive),
      ))

  -- it is working, and one more is too
  scaled_working : (K : ℕ) → A < 2 ^ K → o ≤ i + bias → i + K ≤ o + 65536 → (is_working_exponent (exponent x) ≡ true) × (is_working_exponent (suc_ℤ (exponent x)) ≡ true)
  scaled_working K k low high =
      let l : T < K = pow_below T K (lt_of_le_of_lt t0 k) in
      rw scaled_exponent (working (T + i) o (omega arith) (omega arith), rw (suc_minus (T + i) o) (working (suc (T + i)) o (omega arith) (omega arith)))

-- ---- exact claims

pub record IsClaimed (n : ℕ) (x : Fraction) (s : Bool) (N i o : ℕ) : Type 0 where
  pub number : Number
  pub step : rounded (claim n) x ≡ given number
  pub fit : is_working number ≡ true
  pub amount : IsScaled (value number) s N i o

-- An exact claim of a whole number of n bits holds, where the exponent is working whatever the number's size.
pub claimed_scaled : (n : ℕ) {x : Fraction} {s : Bool} {N i o : ℕ} → IsScaled x s N i o → 1 ≤ n → n ≤ 64 → N < 2 ^ n → o ≤ i + bias → i + n ≤ o + 65536 → IsClaimed n x s N i o
unfolding rounded
claimed_scaled n {x} {s} {N = zero} h n0 n1 small low high = record {
  number = Zero;
  step = rounded_zero (claim n) x (scaled_none h refl);
  fit = zero_working;
  amount = zero_scaled (value_fraction Zero) zero_value;
}
claimed_scaled n {x} {s} {N = suc m} {i} {o} h n0 n1 small low high = record {
  number = y;
  step = holds;
  fit = given_working (claim n) x y h.positive n0 n1 holds;
  amount = record {
    positive = value_fraction y;
    amount =
        equal_through (value y) x (scaled s (suc m) i o) h.positive (kept x n h.positive n0 n1 Trunc bits) h.amount;
  };
}
  where
    y : Number
    y = round Trunc n x

    bit : (t : ℕ) × (2 ^ t ≤ suc m) × (suc m < 2 ^ suc t)
    bit = top_bit (suc m) (omega arith)

    bits : has_at_most_bits n (nat_abs x.numerator) x.denominator ≡ true
    bits = bits_of_is n (nat_abs x.numerator) x.denominator (suc m) i o n0 (scaled_some h (omega arith)) h.positive small (omega (arith, scaled_size h))

    holds : rounded (claim n) x ≡ given y
    holds = claim_holds n x (scaled_some h (omega arith)) (scaled_working h bit.0 bit.1 bit.2 n small low high).0 bits

-- ---- roundings

-- what is placed with a working exponent passes row 7, where one more is working too
checked_placed : (s : Bool) (e : ℤ) (n q : ℕ) → is_working_exponent e ≡ true → is_working_exponent (suc_ℤ e) ≡ true → checked (placed s e n q) ≡ given (placed s e n q)
unfolding checked placed
checked_placed s e n q w z = go (eqb q (2 ^ n))
  where
    go : (t : Bool) → checked (cond t (Finite s (suc_ℤ e) (2 ^ 63)) (Finite s e (q * 2 ^ (64 - n)))) ≡ given (cond t (Finite s (suc_ℤ e) (2 ^ 63)) (Finite s e (q * 2 ^ (64 - n))))
    go true = rw z
    go false = rw w

-- A rounding is given where the exponent is working, and one more too.
pub given_rounded : (mode : Mode) (n : ℕ) (x : Fraction) → IsFraction x → 1 ≤ n → 0 < nat_abs x.numerator → is_working_exponent (exponent x) ≡ true → is_working_exponent (suc_ℤ (exponent x)) ≡ true
    → rounded (by_mode mode n) x ≡ given (round mode n x)
unfolding rounded
given_rounded mode n x x0 n0 some low high =
    let r = round_placed mode n x x0 n0 some in
    ap checked r.1 ∙ checked_placed (is_negative x.numerator) (exponent x) n r.0 low high ∙ ap given (sym r.1)

-- Any A of K bits at most, zero too: the exponent is working whatever A is.
pub given_scaled : (mode : Mode) (n K : ℕ) {x : Fraction} {s : Bool} {A i o : ℕ} → IsScaled x s A i o → 1 ≤ n → n ≤ 64 → A < 2 ^ K → o ≤ i + bias → i + K ≤ o + 65536
    → rounded (by_mode mode n) x ≡ given (round mode n x)
unfolding rounded round checked
given_scaled mode n K {A = zero} h n0 n1 small low high = rw (scaled_none h refl)
given_scaled mode n K {x} {A = suc m} h n0 n1 small low high =
    let bit = top_bit (suc m) (omega arith) in
    let both = scaled_working h bit.0 bit.1 bit.2 K small low high in
    given_rounded mode n x h.positive n0 (scaled_some h (omega arith)) both.0 both.1

-- the cross products of the whole number with its ratio, and of the rounding with its units
whole_cross : (a b A p c k w u v : ℕ) → 0 < w → a * w ≡ A * k * b → u * w ≡ p * c * k * v → a * p * v * c ≡ A * (b * u)
whole_cross a b A p c k w u v w0 e f = eq_of_mul-eq-mul_right w w0 (a * p * v * c) (A * (b * u)) (omega (arith, ap (λ (n : ℕ). n * (p * v * c)) e, ap (λ (n : ℕ). A * b * n) f))

units_cross : (m q d p c k w u v : ℕ) → 0 < p * v → m * (p * v) ≡ q * u * d → u * w ≡ p * c * k * v → m * w ≡ q * c * k * d
units_cross m q d p c k w u v w0 e f = eq_of_mul-eq-mul_right (p * v) w0 (m * w) (q * c * k * d) (omega (arith, ap (λ (n : ℕ). n * w) e, ap (λ (n : ℕ). q * d * n) f))

-- the rounding of a whole number that has d bits more than n
module _ (mode : Mode) (n : ℕ) {x : Fraction} {s : Bool} {A i o : ℕ} (h : IsScaled x s A i o) (d : ℕ) (n0 : 1 ≤ n) (n1 : n ≤ 64)
    (t0 : 2 ^ (n - 1 + d) ≤ A) (t1 : A < 2 ^ suc (n - 1 + d)) where
  -- 2^e, by the unit of the last place
  scaled_unit : up (exponent x) * 2 ^ o ≡ 2 ^ (n - 1) * 2 ^ d * 2 ^ i * down (exponent x)
  scaled_unit = rw (scaled_exponent h (n - 1 + d) t0 t1, ← pow-add 2 (n - 1) d, ← pow-add 2 (n - 1 + d) i) (omega (arith, minus_val 1 (n - 1 + d + i) o))

  own_sign : is_negative x.numerator ≡ s
  own_sign = scaled_sign h (lt_of_lt_of_le (pow_pos (n - 1 + d)) t0)

  scaled_whole : whole mode n x ≡ whole_of mode s A (2 ^ d)
  unfolding scaled_numerator scaled_denominator
  scaled_whole =
      rw own_sign
      (whole_alone (numerator_at n x) (denominator_at x) A (2 ^ d) (scaled_positive (exponent x) x.denominator h.positive) (pow_pos d)
      (whole_cross (nat_abs x.numerator) x.denominator A (2 ^ (n - 1)) (2 ^ d) (2 ^ i) (2 ^ o) (up (exponent x)) (down (exponent x)) (pow_pos o)
      (scaled_size h) scaled_unit)
      mode s)

  pub round_scaled : IsScaled (value (round mode n x)) s (whole_of mode s A (2 ^ d) * 2 ^ d) i o
  round_scaled =
      signed_scaled (value_fraction (round mode n x)) (units.sign ∙ ap (λ (t : Bool). signed t a) own_sign)
      (units_cross a (whole_of mode s A (2 ^ d)) b (2 ^ (n - 1)) (2 ^ d) (2 ^ i) (2 ^ o) (up (exponent x)) (down (exponent x)) (mul-pos (pow_pos (n - 1)) (down_pos (exponent x)))
      (units.ratio ∙ ap (λ (m : ℕ). m * up (exponent x) * b) scaled_whole) scaled_unit)
    where
      a : ℕ
      a = nat_abs (value (round mode n x)).numerator

      b : ℕ
      b = (value (round mode n x)).denominator

      units : IsUnits (round mode n x) (is_negative x.numerator) n (exponent x) (whole mode n x)
      units = round_units mode n x h.positive n0 n1

-- A whole number A of n bits or more, rounded to n: some of its last bits are dropped, and what is left is a whole number again.
pub record IsRounded (mode : Mode) (n : ℕ) (x : Fraction) (s : Bool) (A i o : ℕ) : Type 0 where
  pub number : Number
  pub step : rounded (by_mode mode n) x ≡ given number
  pub fit : is_working number ≡ true
  pub dropped : ℕ
  pub low : 2 ^ (n - 1) * 2 ^ dropped ≤ A
  pub high : A < 2 ^ n * 2 ^ dropped
  pub amount : IsScaled (value number) s (whole_of mode s A (2 ^ dropped) * 2 ^ dropped) i o

-- A has K bits at most; the exponent is then working whatever A is.
pub rounded_scaled : (mode : Mode) (n K : ℕ) {x : Fraction} {s : Bool} {A i o : ℕ} → IsScaled x s A i o → 1 ≤ n → n ≤ 64 → 2 ^ (n - 1) ≤ A → A < 2 ^ K
    → o ≤ i + bias → i + K ≤ o + 65536 → IsRounded mode n x s A i o
rounded_scaled mode n K {x} {s} {A} {i} {o} h n0 n1 least small low high = go (top_bit A (lt_of_lt_of_le (pow_pos (n - 1)) least))
  where
    holds : rounded (by_mode mode n) x ≡ given (round mode n x)
    holds = given_scaled mode n K h n0 n1 small low high

    at : (d : ℕ) → 2 ^ (n - 1 + d) ≤ A → A < 2 ^ suc (n - 1 + d) → IsRounded mode n x s A i o
    at d t0 t1 =
        let parts = pow-add 2 (n - 1) d in
        record {
          number = round mode n x;
          step = holds;
          fit = given_working (by_mode mode n) x (round mode n x) h.positive n0 n1 holds;
          dropped = d;
          low = omega arith;
          high = omega (arith, ap (λ (m : ℕ). m * 2 ^ d) (power_twice n n0), pow-succ' 2 (n - 1 + d));
          amount = round_scaled mode n h d n0 n1 t0 t1;
        }

    go : (t : ℕ) × (2 ^ t ≤ A) × (A < 2 ^ suc t) → IsRounded mode n x s A i o
    go (t, t0, t1) =
        let l : n - 1 ≤ t = below_top (n - 1) t A least t1 in
        let k : t ≡ n - 1 + (t - (n - 1)) = omega arith in
        at (t - (n - 1)) (rw (← k) t0) (rw (← k) t1)
