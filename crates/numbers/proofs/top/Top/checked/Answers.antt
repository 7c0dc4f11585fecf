-- `numbers::top::Top::checked` meets its contract: the exponent is (exponent + 127) - (2^31 + zeros).
use Rattle.std.specs.Prelude.{Ok, Err}
use mathlib.Core.Path.{◌≡◌, sym, ◌∙◌}
use mathlib.Core.Bool.{Bool, true, false}
use Prim.Native.Nat.{ℕ, ◌+◌, ◌-◌, ◌≤◌}
use native.Mathlib.Omega.{arith}
use lib.Ieee.{minus}
use lib.IntN.{ℤ}
use mir.Facts.{to_z-of_z}
use mir.Syntax.{w32}
use mir.Val.{SFits, to_z, of_z}
use Rattle.numbers.specs.Biased.{bias, raise, highest_biased}
use Rattle.numbers.specs.Answer.{checked, answer_outcome}
use Rattle.numbers.specs.Number.{is_working_exponent}
use Rattle.refusals.specs.Row.{row_number}
use Rattle.refusals.specs.declared.Refusal.TheVariants.{ExponentOutside}
use Rattle.numbers.specs.declared.number.Number.TheVariants.{Finite}
use Rattle.numbers.proofs.Laws.Minus.{minus_same}
use Rattle.numbers.proofs.Laws.Bias.{working_range}
use Rattle.numbers.proofs.top.Top.checked.Goals as goal

module _ (negative : Bool) (S x z : ℕ) (inside : Bool) (e : inside ≡ is_working_exponent (minus (x + 127) (raise + z))) where
  outside : inside ≡ false → answer_outcome (Err ExponentOutside) ≡ checked (Finite negative (minus (x + 127) (raise + z)) S)
  unfolding answer_outcome row_number checked
  outside h = rw (sym e ∙ h)

  -- 2,147,417,986 is 2^31 − 65,535 − 127
  range : inside ≡ true → (z + 2147417986 ≤ x) × (x - (z + 2147417986) ≤ highest_biased)
  unfolding raise
  range h = let r = working_range (x + 127) (raise + z) (sym e ∙ h) in (omega (arith, r.0), omega (arith, r.1))

  same : inside ≡ true → minus (x - (z + 2147417986)) bias ≡ minus (x + 127) (raise + z)
  unfolding raise
  same h = let r = working_range (x + 127) (raise + z) (sym e ∙ h) in minus_same (x - (z + 2147417986)) bias (x + 127) (raise + z) (omega (arith, r.0))

  fit : inside ≡ true → (r : ℤ) → SFits w32 r → r ≡ minus (x - (z + 2147417986)) bias
      → answer_outcome (Ok (Finite negative (to_z w32 (of_z w32 r)) S)) ≡ checked (Finite negative (minus (x + 127) (raise + z)) S)
  unfolding answer_outcome row_number checked
  fit h r fits k = rw (to_z-of_z fits, k ∙ same h, sym e ∙ h)

pub overflow_sub-self : goal.overflow_sub-self
overflow_sub-self c = (range c.args.self.negative c.args.significand _ _ _ c.is_inside.ensures c.if-is_inside.true).0

pub unbiased-requires : goal.unbiased-requires
unbiased-requires c = (range c.args.self.negative c.args.significand _ _ _ c.is_inside.ensures c.if-is_inside.true).1

pub returns-then-is_inside : goal.returns-then-is_inside
returns-then-is_inside c = fit _ _ _ _ _ c.is_inside.ensures c.if-is_inside.true _ (record { sfits = c.unbiased.type_inv }) c.unbiased.ensures

pub returns-else-is_inside : goal.returns-else-is_inside
returns-else-is_inside c = outside _ _ _ _ _ c.is_inside.ensures c.if-is_inside.false
