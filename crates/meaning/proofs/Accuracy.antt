-- Where a rounding lies, seen from the value x: it is exact just where x has at most n bits, in every mode alike; up lies nowhere below x, down nowhere above.
-- What below, exact and above mean as fractions stands in the laws of `numbers` (Accuracy).
use mathlib.Core.Path.{◌≡◌}
use mathlib.Core.Logic.{◌↔◌}
use Prim.Native.Nat.{ℕ, ◌≤◌}
use lib.Signed.{clash_ℤ}
use Rattle.numbers.specs.Accuracy.{accuracy_of}
use Rattle.numbers.specs.Fraction.{Fraction, IsFraction, AtMost, Below, value}
use Rattle.numbers.specs.Rounding.{round}
use Rattle.numbers.specs.declared.answer.Accuracy.TheVariants as accuracy
use Rattle.numbers.specs.declared.task.Mode.{Mode}
use Rattle.numbers.specs.declared.task.Mode.TheVariants.{Up, Down}
use Rattle.numbers.proofs.Laws.Accuracy.{below_means, exact_means, above_means}
use Rattle.numbers.proofs.Laws.Bounds.{kept, up_above, down_below}
use Rattle.numbers.proofs.Laws.Pairs.{equal_back}
use Rattle.meaning.specs.Meaning.{HasBits}
use Rattle.meaning.proofs.Between.{equal_bits, round_bits, bits_mean}

module _ (n : ℕ) (x : Fraction) (x0 : IsFraction x) (n0 : 1 ≤ n) (n1 : n ≤ 64) where
  -- A rounding is exact just where x is a number of n bits.
  pub exact_bits : (mode : Mode) → (accuracy_of (value (round mode n x)) x ≡ accuracy.Exact) ↔ HasBits n x
  exact_bits mode =
      let y = value (round mode n x) in (
        λ h. equal_bits x y x0 (equal_back y x ((exact_means y x).0 h)) (round_bits mode n x x0 n0 n1),
        λ b. (exact_means y x).1 (kept x n x0 n0 n1 mode ((bits_mean n x x0 n0 n1).0 b)),
      )

  pub up_not_below : accuracy_of (value (round Up n x)) x ≡ accuracy.Below → ⊥
  unfolding AtMost Below
  up_not_below h = clash_ℤ ((below_means (value (round Up n x)) x).0 h) (up_above x n x0 n0 n1)

  pub down_not_above : accuracy_of (value (round Down n x)) x ≡ accuracy.Above → ⊥
  unfolding AtMost Below
  down_not_above h = clash_ℤ ((above_means (value (round Down n x)) x).0 h) (down_below x n x0 n0 n1)
