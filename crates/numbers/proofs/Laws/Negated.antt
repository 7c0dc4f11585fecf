-- A difference is the sum with the negated number, which is as fit.
use mathlib.Core.Path.{◌≡◌, refl, sym, ap, ◌∙◌}
use Prim.Native.Nat.{◌*◌, ◌^◌}
use lib.Ieee.{up, down}
use lib.IntN.{ℤ}
use Rattle.numbers.specs.Fraction.{Fraction, value, sum, difference}
use Rattle.numbers.specs.Number.{is_fit, is_working, negated}
use Rattle.numbers.specs.declared.number.Number.{Number}
use Rattle.numbers.specs.declared.number.Number.TheVariants.{Zero, Finite}
use Rattle.numbers.proofs.Laws.Pairs.{fraction}
use Rattle.numbers.proofs.Laws.Splits.{neg_signed}
use Rattle.numbers.proofs.Laws.Fractions.{opposite, difference_sum}

pub negated_working : (x : Number) → is_working (negated x) ≡ is_working x
unfolding negated is_fit
negated_working Zero = refl
negated_working (Finite s e S) = refl

negated_value : (y : Number) → value (negated y) ≡ opposite (value y)
unfolding value negated
negated_value Zero = refl
negated_value (Finite s e S) = ap (λ (z : ℤ). fraction z (2 ^ 63 * down e)) (sym (neg_signed s (S * up e)))

pub difference_is : (x : Fraction) (y : Number) → sum x (value (negated y)) ≡ difference x (value y)
difference_is x y = ap (sum x) (negated_value y) ∙ sym (difference_sum x (value y))
