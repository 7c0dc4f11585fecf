-- Magnitudes of two words of 64 bits: their sums, and what they tell of their words.
use mathlib.Core.Path.{◌≡◌}
use Prim.Native.Nat.{ℕ, ◌+◌, ◌*◌, ◌^◌, ◌≤◌, ◌<◌}
use native.Mathlib.Omega.{arith}
use Rattle.numbers.specs.Cell.{wide}
use Rattle.numbers.proofs.Laws.Words.{high_lt}

-- the sum of two magnitudes, where the sum of their low words carries d
pub wide_sum : (d ah al bh bl h l : ℕ) → ah + bh + d ≡ h → al + bl ≡ l + d * 2 ^ 64 → wide ah al + wide bh bl ≡ wide h l
unfolding wide
wide_sum d ah al bh bl h l eh el = omega arith

-- a bound on a magnitude bounds its high word
pub wide_high : (h l : ℕ) → wide h l < 2 ^ 128 → h < 2 ^ 64
unfolding wide
wide_high h l = high_lt (2 ^ 64) (2 ^ 64) h l

-- the order of two magnitudes orders their high words
pub wide_le : (ah al bh bl : ℕ) → wide bh bl ≤ wide ah al → al < 2 ^ 64 → bh ≤ ah
unfolding wide
wide_le ah al bh bl h b = omega arith

pub wide_lt : (ah al bh bl : ℕ) → wide bh bl ≤ wide ah al → al < bl → bh < ah
unfolding wide
wide_lt ah al bh bl h b = omega arith

-- with no high word, a magnitude is its low word
pub wide_low : (h l : ℕ) → h ≡ 0 → wide h l ≡ l
unfolding wide
wide_low h l e = omega arith
