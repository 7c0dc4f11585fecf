-- Step 1: the seed is exact in eight bits, and the seed times the divisor lies near 1.
use mathlib.Core.Path.{◌≡◌, ap, ap₂, ◌∙◌}
use mathlib.Core.Bool.{Bool, false}
use Prim.Native.Nat.{ℕ, ◌+◌, ◌*◌, ◌^◌, ◌≤◌, ◌<◌}
use native.Mathlib.Nat.{mul-lt-mul_of_pos_right, mul-one, mul-pos, one-mul}
use native.Mathlib.Omega.{arith}
use lib.Dec.{lit≤, lit<, lt→ltb}
use lib.Ieee.{minus, up, down}
use lib.Ieee.Digits.{minus_val}
use lib.Ieee.Fits.{down_pos, up_pos}
use lib.IntN.{ℤ, pos, nat_abs, ◌-ℤ◌}
use lib.Pow.{pow-add}
use lib.Signed.{lt_z_yes}
use Rattle.numbers.specs.Biased.{bias, origin}
use Rattle.numbers.specs.Fraction.{IsFraction, Below, signed, value, sum, difference, product, magnitude, IsScaled}
use Rattle.numbers.specs.declared.number.Number.{Number}
use Rattle.numbers.specs.declared.number.Number.TheVariants.{Zero, Finite}
use Rattle.numbers.proofs.Laws.Pairs.{fraction}
use Rattle.numbers.proofs.Laws.Splits.{signed_product, abs_difference}
use Rattle.numbers.proofs.Laws.Fractions.{signed_equal}
use Rattle.numbers.proofs.Laws.Ratio.{gap}
use Rattle.numbers.proofs.Laws.Signs.{unlike_same}
use Rattle.numbers.proofs.Laws.Scaled.{origin_is, value_fraction}
use Rattle.numbers.proofs.Laws.Tasks.{IsClaimed, claimed_scaled}
use Rattle.numbers.proofs.Laws.Powers.{power_sum}
use Rattle.division.specs.Seed.{index_of}
use Rattle.division.proofs.Laws.Seeds.{entry_for, entry_range, index_below, seed_close}
use Rattle.division.proofs.Laws.Range.{InRange, lowest_admissible}
use Rattle.steps.specs.Steps.{seed}
use Rattle.steps.specs.Theorem.{IsNearOne}

-- ---- step 1

pub seed_fraction : (x : Number) → IsFraction (seed x)
unfolding seed
seed_fraction Zero = value_fraction Zero
seed_fraction (Finite s e S) = mul-pos (lit< tt) (up_pos e)

pub seed_scaled : (s : Bool) (b D : ℕ) → IsScaled (seed (Finite s (minus b bias) D)) s (entry_for D) origin (b + 71)
unfolding seed
seed_scaled s b D = record {
  positive = seed_fraction (Finite s (minus b bias) D);
  amount =
      signed_equal s (entry_for D * down (minus b bias)) (256 * up (minus b bias)) (entry_for D * 2 ^ origin) (2 ^ (b + 71))
      (on_grid (entry_for D) bias origin origin_is);
}
  where
    on_grid : (T o l : ℕ) → l ≡ o + 63 → T * down (minus b o) * 2 ^ (b + 71) ≡ T * 2 ^ l * (256 * up (minus b o))
    on_grid T o l e =
        omega (
          arith,
          ap (λ (n : ℕ). n * 2 ^ 71) (minus_val T b o),
          ap (λ (n : ℕ). T * down (minus b o) * n) (pow-add 2 b 71),
          ap (λ (n : ℕ). T * (256 * up (minus b o)) * n) (power_sum _ o 63 e),
        )

-- The seed is exact in eight bits.
pub seed_step : (s : Bool) (b D : ℕ) → InRange lowest_admissible b D → IsClaimed 8 (seed (Finite s (minus b bias) D)) s (entry_for D) origin (b + 71)
seed_step s b D range =
    claimed_scaled 8 (seed_scaled s b D) (lit≤ tt) (lit≤ tt) (entry_range (index_of D) (index_below D)).1 (omega (arith, origin_is)) (omega (arith, origin_is))

-- ---- the sentences of document 01

near_one : (a d : ℕ) → gap a d * 2 ^ 17 < 768 * d → IsNearOne (fraction (signed false a) d)
unfolding Below magnitude difference sum signed
near_one a d h = rw miss (lt_z_yes (lt→ltb (gap a d * 2 ^ 17) (768 * (d * 1)) (omega arith)))
  where
    miss : nat_abs (pos (a * 1) -ℤ pos (1 * d)) ≡ gap a d
    miss = abs_difference false (a * 1) (1 * d) ∙ ap₂ gap (mul-one a) (one-mul d)

seed_product : (s : Bool) (e : ℤ) (S : ℕ)
    → product (seed (Finite s e S)) (value (Finite s e S)) ≡ fraction (signed false (entry_for S * down e * (S * up e))) (256 * up e * (2 ^ 63 * down e))
unfolding seed value product
seed_product s e S =
    ap (λ (z : ℤ). fraction z (256 * up e * (2 ^ 63 * down e)))
    (signed_product s s (entry_for S * down e) (S * up e) ∙ ap (λ (t : Bool). signed t (entry_for S * down e * (S * up e))) (unlike_same s))

-- "All 128 entries satisfy: seed × d differs from 1 by less than 2^−8 + 2^−9."
pub seed_rule : (s : Bool) (e : ℤ) (S : ℕ) → 2 ^ 63 ≤ S → S < 2 ^ 64 → IsNearOne (product (seed (Finite s e S)) (value (Finite s e S)))
seed_rule s e S top word =
    rw (seed_product s e S)
    (near_one (entry_for S * down e * (S * up e)) (256 * up e * (2 ^ 63 * down e)) (apart (entry_for S) (up e) (down e) (mul-pos (up_pos e) (down_pos e)) (seed_close S top word)))
  where
    apart : (T u v : ℕ) → 0 < u * v → (T * S < 2 ^ 71 + 3 * 2 ^ 62) × (2 ^ 71 < T * S + 3 * 2 ^ 62)
        → gap (T * v * (S * u)) (256 * u * (2 ^ 63 * v)) * 2 ^ 17 < 768 * (256 * u * (2 ^ 63 * v))
    apart T u v p c = omega (arith, mul-lt-mul_of_pos_right {k = u * v} c.0 p, mul-lt-mul_of_pos_right {k = u * v} c.1 p)
