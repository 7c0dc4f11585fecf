-- Steps 2 to 6: the seed's error, squared twice.
use mathlib.Core.Path.{◌≡◌, refl}
use mathlib.Core.Bool.{Bool, true, false}
use Prim.Native.Nat.{ℕ, ◌+◌, ◌*◌, ◌^◌}
use native.Mathlib.Omega.{arith}
use lib.Dec.{lit≤}
use lib.Ieee.{minus}
use Rattle.numbers.specs.Biased.{bias, origin}
use Rattle.numbers.specs.Number.{is_working}
use Rattle.numbers.specs.Fraction.{value, product, IsScaled}
use Rattle.numbers.specs.Rounding.{by_mode}
use Rattle.numbers.specs.Answer.{given, rounded}
use Rattle.numbers.specs.declared.number.Number.{Number}
use Rattle.numbers.specs.declared.number.Number.TheVariants.{Finite}
use Rattle.numbers.specs.declared.task.Mode.TheVariants.{Trunc, Away}
use Rattle.numbers.proofs.Laws.Signs.{unlike_same, unlike_plus}
use Rattle.numbers.proofs.Laws.Exact.{product_scaled}
use Rattle.numbers.proofs.Laws.Scaled.{origin_is, working_scaled, moved, finer}
use Rattle.numbers.proofs.Laws.Tasks.{IsClaimed}
use Rattle.division.specs.Seed.{index_of}
use Rattle.division.proofs.Laws.Newton.{IsNear, IsTurned, IsCloser, product_top, product_word, has_complement, refined_top, refined_word_is, closer, next_near, last_close}
use Rattle.division.proofs.Laws.Seeds.{entry_for, entry_range, index_below, seed_close}
use Rattle.division.proofs.Laws.Range.{half, half_is, half_square, half_cube, InRange, lowest_admissible}
use Rattle.steps.specs.Steps.{seed, refined}
use Rattle.steps.proofs.Laws.Complement.{complement_scaled}
use Rattle.steps.proofs.Laws.SeedStep.{seed_step}
use Rattle.steps.proofs.Laws.Shortened.{IsShortened, shortened, word_shortened}
use Rattle.steps.proofs.Laws.Terms.{IsBelowTwo, HasReciprocal}

-- ---- a Newton step: steps 3 and 4, or 5 and 6, from the reciprocal n, which is x / 2^96 × 2^origin / 2^b

record HasRefined (s : Bool) (b D x : ℕ) (n dr : Number) : Type 0 where
  t : Number
  next : Number
  away_step : rounded (by_mode Away 32) (product (value n) (value dr)) ≡ given t
  trunc_step : rounded (by_mode Trunc 32) (refined (value n) (value t)) ≡ given next
  below_two : IsBelowTwo t
  whole : ℕ
  fit : is_working next ≡ true
  amount : IsScaled (value next) s whole origin (b + 96)
  is_closer : IsCloser (half * half * half) (half * half) (x * D) (whole * D)

module _ (s : Bool) (b D DR x : ℕ) (n dr : Number) (range : InRange lowest_admissible b D) (near : IsNear half D DR x)
    (n-is : IsScaled (value n) s x origin (b + 96)) (dr-is : IsScaled (value dr) s DR (b + 32) origin) where
  product_is : IsScaled (product (value n) (value dr)) false (x * DR) 0 64
  product_is = moved (rw (unlike_same s) at (product_scaled n-is dr-is)) (omega arith)

  away : IsShortened Away 65 (product (value n) (value dr)) false (x * DR) 0 32
  away =
      shortened Away 65 product_is (omega (arith, half_square, product_top half D DR x near)) (omega (arith, half_square, product_word half D DR x near)) (lit≤ tt) (lit≤ tt)

  turned : (z : ℕ) × IsTurned half DR x away.whole z
  turned = has_complement half D DR x near away.whole (away.above refl) (omega (arith, half_is, away.near))

  z : ℕ
  z = turned.0

  turn : IsTurned half DR x away.whole z
  unfolding z
  turn = turned.1

  refined_is : IsScaled (refined (value n) (value away.number)) s (x * z) origin (b + 96 + 32)
  unfolding refined
  refined_is =
      moved (rw (unlike_plus s) at (product_scaled n-is (complement_scaled {z = z} (omega (arith, half_is, turn.complement)) away.amount))) (omega arith)

  trunc : IsShortened Trunc 65 (refined (value n) (value away.number)) s (x * z) origin (b + 96)
  trunc =
      shortened Trunc 65 refined_is (omega (arith, half_square, refined_top half D DR x away.whole z near turn))
      (omega (arith, half_square, refined_word_is half D DR x away.whole z near turn)) (omega (arith, origin_is)) (omega (arith, origin_is))

  step : HasRefined s b D x n dr
  step = record {
    t = away.number;
    next = trunc.number;
    away_step = away.step;
    trunc_step = trunc.step;
    below_two = (away.whole, away.amount, omega (arith, half_is, turn.complement));
    whole = trunc.whole;
    fit = trunc.fit;
    amount = trunc.amount;
    is_closer =
        closer half D DR x away.whole z trunc.whole near turn (record { below = trunc.below refl; near = omega (arith, half_is, trunc.near) });
  }

-- ---- all six steps

module _ (s : Bool) (b D : ℕ) (range : InRange lowest_admissible b D) where
  first : IsClaimed 8 (seed (Finite s (minus b bias) D)) s (entry_for D) origin (b + 71)
  first = seed_step s b D range

  divisor_step : IsShortened Away 64 (value (Finite s (minus b bias) D)) s D (b + 32) origin
  divisor_step = word_shortened Away (lit≤ tt) range (working_scaled s b D)

  near : IsNear half D divisor_step.whole (entry_for D * 2 ^ 25)
  near =
      let c = seed_close D range.top range.word in
      record {
        half_word = half_is;
        top = omega (arith, half_square);
        word = omega (arith, half_square);
        divisor_above = divisor_step.above refl;
        divisor_near = omega (arith, half_is, divisor_step.near, divisor_step.above refl);
        most = omega (arith, half_is, (entry_range (index_of D) (index_below D)).1);
        close = omega (arith, half_cube, c.0, c.1);
      }

  -- the six steps are given, and after them v × D is at most 2^96 and above 2^96 − 2^68
  pub reciprocal : HasReciprocal s b D (Finite s (minus b bias) D)
  reciprocal =
      let dr = divisor_step.number in
      let DR = divisor_step.whole in
      let x = entry_for D * 2 ^ 25 in
      let once = step s b D DR x first.number dr range near (finer first.amount 25 (omega arith)) divisor_step.amount in
      let Near-again = next_near half D DR x once.whole near once.is_closer in
      let twice = step s b D DR once.whole once.next dr range Near-again once.amount divisor_step.amount in
      record {
        s0 = first.number;
        dr = dr;
        t0 = once.t;
        s1 = once.next;
        t1 = twice.t;
        s2 = twice.next;
        step_1 = first.step;
        step_2 = divisor_step.step;
        step_3 = once.away_step;
        step_4 = once.trunc_step;
        step_5 = twice.away_step;
        step_6 = twice.trunc_step;
        below_two_0 = once.below_two;
        below_two_1 = twice.below_two;
        reciprocal = record {
          whole = twice.whole;
          fit = twice.fit;
          amount = twice.amount;
          under = twice.is_closer.under;
          close = last_close half D DR x once.whole near once.is_closer twice.whole twice.is_closer;
        };
      }
