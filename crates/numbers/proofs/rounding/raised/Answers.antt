-- `numbers::rounding::raised` meets its contract: an exponent of 32 bits and 2^31 make a natural number, which fits.
use mathlib.Core.Path.{◌≡◌, refl, sym, ap, ◌∙◌}
use Prim.Native.Nat.{ℕ, suc, ◌+◌, ◌-◌, ◌^◌, ◌<◌}
use native.Mathlib.Omega.{arith}
use borrow.Author.Tests.{le-ltb}
use lib.Ieee.{minus}
use lib.IntN.{ℤ, pos, negsuc, ◌+ℤ◌}
use mir.Facts.{to_z-of_z}
use mir.Syntax.{w32, w64}
use mir.Val.{SFits, to_z, of_z}
use Rattle.numbers.specs.Biased.{raise}
use Rattle.numbers.proofs.Laws.Minus.{minus_natural, minus_negative}
use Rattle.numbers.proofs.rounding.raised.Goals as goal

sum_natural : (e : ℤ) → SFits w32 e → (b : ℕ) × (e +ℤ pos 2147483648 ≡ pos b) × (b < 2 ^ 32) × (e ≡ minus b raise)
unfolding raise
sum_natural (pos a) h = (a + 2147483648, refl, omega (arith, h.sfits), sym (minus_natural (a + 2147483648) 2147483648 (omega arith) ∙ ap pos (omega arith)))
sum_natural (negsuc a) h =
    let l : a < 2147483648 = h.sfits in (
      2147483647 - a,
      rw (le-ltb 2147483648 (suc a) (omega arith)) (ap pos (omega arith)),
      omega arith,
      sym (minus_negative (2147483647 - a) 2147483648 (omega arith) ∙ ap negsuc (omega arith)),
    )

wider : (e : ℤ) → SFits w32 e → SFits w64 e
wider e h = record { sfits = omega (arith, h.sfits) }

module _ (e : ℤ) (fits : SFits w32 e) where
  small : (b : ℕ) → b < 2 ^ 32 → SFits w64 (pos b)
  small b h = record { sfits = omega arith }

  sum_fits : SFits w64 (to_z w64 (of_z w64 e) +ℤ pos 2147483648)
  sum_fits = let w = sum_natural e fits in rw (to_z-of_z (wider e fits), w.1) (small w.0 w.2)

  sum_is : to_z w64 (of_z w64 (to_z w64 (of_z w64 e) +ℤ pos 2147483648)) ≡ pos (sum_natural e fits).0
  sum_is = to_z-of_z sum_fits ∙ ap (λ (z : ℤ). z +ℤ pos 2147483648) (to_z-of_z (wider e fits)) ∙ (sum_natural e fits).1

  cast_is : to_z w32 (of_z w32 e) ≡ e
  cast_is = to_z-of_z fits

pub returns : goal.returns
returns c =
    let w = sum_natural c.args.exponent c.ranges.exponent in
    rw (cast_is c.args.exponent c.ranges.exponent, sum_is c.args.exponent c.ranges.exponent) (w.3, w.2)
