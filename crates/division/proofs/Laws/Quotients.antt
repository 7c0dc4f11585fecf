-- A remainder of M units 2^i / 2^(origin + 64), divided by the divisor: the size and the sign of the quotient, in units 2^i / 2^(b + 64).
use Rattle.std.proofs.Common.{◌≡◌, ℕ, ◌+◌, ◌*◌, ◌^◌, ◌<◌, ◌≤◌, Bool, false, nat_abs, ap, ◌∙◌, mul-le-mul_right, lt_of_mul-lt-mul_right, mul-lt-mul_of_pos_right, mul-pos, le_of_mul-le-mul_right, arith, le→leb, pow_pos, pow-add}
use native.Mathlib.Nat.{eq_of_mul-eq-mul_right}
use lib.Ieee.{unlike}
use lib.Signed.{le_z_yes}
use Rattle.numbers.specs.Biased.{origin}
use Rattle.numbers.specs.Fraction.{Fraction, IsFraction, Equal, AtMost, Below, signed, quotient, magnitude, is_negative, scaled, IsScaled}
use Rattle.numbers.proofs.Laws.Pairs.{fraction}
use Rattle.numbers.proofs.Laws.Fractions.{quotient_fraction, quotient_signed, quotient_equal, equal_magnitudes, equal_signs}
use Rattle.numbers.proofs.Laws.Signs.{abs_signed, negative_signed}
use Rattle.numbers.proofs.Laws.Scaled.{scaled_fraction, scaled_size, scaled_some, below_scaled, reaches_scaled}

module _ {x d : Fraction} {s t : Bool} {M D i b : ℕ} (D0 : 0 < D) (divisor : IsScaled d s D b origin) (amount : IsScaled x t M i (origin + 64)) where
  ratio : Fraction
  ratio = fraction (signed (unlike t s) (M * 2 ^ i * 2 ^ origin)) (2 ^ (origin + 64) * (D * 2 ^ b))

  ratio_fraction : IsFraction ratio
  unfolding ratio
  ratio_fraction = mul-pos (pow_pos (origin + 64)) (mul-pos D0 (pow_pos b))

  pub positive : IsFraction (quotient x d)
  positive = quotient_fraction x d amount.positive (scaled_some divisor D0)

  quotient_is : Equal (quotient x d) ratio
  unfolding ratio
  quotient_is =
      rw (← quotient_signed t s (M * 2 ^ i) (2 ^ (origin + 64)) (D * 2 ^ b) (2 ^ origin) (mul-pos D0 (pow_pos b)))
      (quotient_equal x d (scaled t M i (origin + 64)) (scaled s D b origin) amount.positive divisor.positive
      (scaled_fraction t M i (origin + 64)) (scaled_fraction s D b origin) (scaled_some divisor D0) amount.amount divisor.amount)

  pub quotient_size : nat_abs (quotient x d).numerator * 2 ^ (b + 64) * D ≡ M * 2 ^ i * (quotient x d).denominator
  unfolding ratio
  quotient_size =
      crossed (nat_abs (quotient x d).numerator) (quotient x d).denominator (2 ^ origin) (2 ^ (origin + 64)) (2 ^ (b + 64)) (pow_pos origin) (pow-add 2 origin 64) (pow-add 2 b 64)
      (equal_magnitudes (quotient x d) ratio quotient_is ∙ ap (λ (n : ℕ). n * (quotient x d).denominator) (abs_signed (unlike t s) (M * 2 ^ i * 2 ^ origin)))
    where
      crossed : (Q E o p k : ℕ) → 0 < o → p ≡ o * 2 ^ 64 → k ≡ 2 ^ b * 2 ^ 64 → Q * (p * (D * 2 ^ b)) ≡ M * 2 ^ i * o * E → Q * k * D ≡ M * 2 ^ i * E
      crossed Q E o p k o0 e f h =
          eq_of_mul-eq-mul_right o o0 (Q * k * D) (M * 2 ^ i * E) (omega (arith, ap (λ (n : ℕ). Q * n * D * 2 ^ b) e, ap (λ (n : ℕ). Q * n * D * o) f))

  -- it is below one unit where M is below D
  pub quotient_below : M < D → Below (magnitude (quotient x d)) (scaled false 1 i (b + 64))
  quotient_below h =
      (below_scaled (quotient x d) 1 i (b + 64)).1 (lt_of_mul-lt-mul_right D (rw quotient_size (less (2 ^ i) (quotient x d).denominator (pow_pos i) positive)))
    where
      less : (k E : ℕ) → 0 < k → 0 < E → M * k * E < 1 * k * E * D
      less k E k0 E0 = omega (arith, mul-lt-mul_of_pos_right {k = k * E} h (mul-pos k0 E0))

  -- and N units at least where M is N D at least
  module _ (N : ℕ) (enough : N * D ≤ M) where
    more : N * 2 ^ i * (quotient x d).denominator ≤ nat_abs (quotient x d).numerator * 2 ^ (b + 64)
    more = le_of_mul-le-mul_right {k = D} (rw quotient_size (times (2 ^ i) (quotient x d).denominator)) D0
      where
        times : (k E : ℕ) → N * k * E * D ≤ M * k * E
        times k E = omega (arith, mul-le-mul_right (k * E) enough)

    pub quotient_reaches : AtMost (scaled false N i (b + 64)) (magnitude (quotient x d))
    quotient_reaches = (reaches_scaled (quotient x d) N i (b + 64)).1 more

    -- so a number of N units is short of it
    pub quotient_short : {q : Fraction} {u : Bool} → IsScaled q u N i (b + 64) → AtMost (magnitude q) (magnitude (quotient x d))
    unfolding AtMost magnitude
    quotient_short {q} h =
        let X = nat_abs q.numerator in
        let Q = nat_abs (quotient x d).numerator in
        let E = (quotient x d).denominator in
        le_z_yes (le→leb (X * E) (Q * q.denominator) (less X q.denominator Q E (2 ^ (b + 64)) (N * 2 ^ i) (pow_pos (b + 64)) (scaled_size h) more))
      where
        less : (X k Q E o n : ℕ) → 0 < o → X * o ≡ n * k → n * E ≤ Q * o → X * E ≤ Q * k
        less X k Q E o n o0 e h = le_of_mul-le-mul_right {k = o} (omega (arith, ap (λ (m : ℕ). m * E) e, mul-le-mul_right k h)) o0

  pub quotient_sign : 0 < M → is_negative (quotient x d).numerator ≡ unlike t s
  unfolding ratio
  quotient_sign M0 =
      equal_signs (quotient x d) ratio positive ratio_fraction quotient_is
      ∙ negative_signed (unlike t s) (M * 2 ^ i * 2 ^ origin) (mul-pos (mul-pos M0 (pow_pos i)) (pow_pos origin))
