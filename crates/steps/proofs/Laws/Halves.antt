-- Steps 7 and 8: the two halves of the divisor.
use mathlib.Core.Path.{refl, ap}
use mathlib.Core.Bool.{Bool}
use Prim.Native.Nat.{ℕ, ◌+◌, ◌-◌, ◌*◌, ◌<◌}
use native.Mathlib.Nat.{lt_of_le_of_lt, lt_of_mul-lt-mul_right}
use native.Mathlib.Omega.{arith}
use lib.Dec.{lit≤}
use lib.Ieee.{minus}
use Rattle.numbers.specs.Biased.{bias, origin}
use Rattle.numbers.specs.Fraction.{value, difference}
use Rattle.numbers.specs.declared.number.Number.{Number}
use Rattle.numbers.specs.declared.number.Number.TheVariants.{Finite}
use Rattle.numbers.specs.declared.task.Mode.TheVariants.{Trunc}
use Rattle.numbers.proofs.Laws.Exact.{less_scaled}
use Rattle.numbers.proofs.Laws.Scaled.{origin_is, working_scaled, finer}
use Rattle.numbers.proofs.Laws.Tasks.{IsClaimed, claimed_scaled}
use Rattle.division.proofs.Laws.Range.{half, half_is, half_square, InRange, lowest_admissible}
use Rattle.steps.proofs.Laws.Shortened.{IsShortened, word_shortened}
use Rattle.steps.proofs.Laws.Terms.{HasHalves}

-- The divisor is cut at half a word: its trunc to 32 bits is the upper half, and what is left is the lower half, exactly.
pub halves : (s : Bool) (b D : ℕ) → InRange lowest_admissible b D → HasHalves s b D (Finite s (minus b bias) D)
halves s b D range = record {
  h = upper.number;
  l = lower.number;
  step_7 = upper.step;
  step_8 = lower.step;
  halves = record {
    high = upper.whole;
    low = D - upper.whole * half;
    whole = omega (arith, upper.below refl);
    high_word = lt_of_mul-lt-mul_right half (lt_of_le_of_lt (upper.below refl) (rw half_square range.word));
    low_word = rest;
    high_fit = upper.fit;
    low_fit = lower.fit;
    high_amount = upper.amount;
    low_amount = lower.amount;
  };
}
  where
    d : Number
    d = Finite s (minus b bias) D

    upper : IsShortened Trunc 64 (value d) s D (b + 32) origin
    upper = word_shortened Trunc (lit≤ tt) range (working_scaled s b D)

    rest : D - upper.whole * half < half
    rest = omega (arith, half_is, upper.near)

    lower : IsClaimed 32 (difference (value d) (value upper.number)) s (D - upper.whole * half) b origin
    lower =
        claimed_scaled 32
        (less_scaled (omega (arith, upper.below refl, ap (λ (n : ℕ). upper.whole * n) half_is)) (working_scaled s b D) (finer upper.amount 32 (omega arith)))
        (lit≤ tt) (lit≤ tt) (omega (arith, half_is, rest)) (omega (arith, origin_is)) (omega (arith, origin_is))
