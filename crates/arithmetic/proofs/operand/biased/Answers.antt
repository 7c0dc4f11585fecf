-- `arithmetic::operand::biased` meets its contract: a working exponent and 65,535 make a natural number, which fits.
use Rattle.std.proofs.Common.{◌≡◌, ℕ, ◌≤◌, true, ℤ, pos, ◌+ℤ◌, ap, ◌∙◌, arith, to_z-of_z, w32, SFits, to_z, of_z}
use Rattle.numbers.specs.Biased.{bias, highest_biased}
use Rattle.numbers.specs.Number.{is_working_exponent}
use Rattle.numbers.proofs.Laws.Bias.{biased_working}
use Rattle.arithmetic.proofs.operand.biased.Goals as goal

module _ (e : ℤ) (fits : SFits w32 e) (working : is_working_exponent e ≡ true) where
  small : (b : ℕ) → b ≤ highest_biased → SFits w32 (pos b)
  small b h = record { sfits = omega arith }

  sum_fits : SFits w32 (to_z w32 (of_z w32 e) +ℤ pos bias)
  sum_fits = let w = biased_working e working in rw (to_z-of_z fits, w.1) (small w.0 w.2)

  sum_is : to_z w32 (of_z w32 (to_z w32 (of_z w32 e) +ℤ pos bias)) ≡ pos (biased_working e working).0
  sum_is = to_z-of_z sum_fits ∙ ap (λ (z : ℤ). z +ℤ pos bias) (to_z-of_z fits) ∙ (biased_working e working).1

pub overflow_add-result : goal.overflow_add-result
overflow_add-result c = sum_fits c.args.exponent c.ranges.exponent c.requires

pub overflow_cast-result : goal.overflow_cast-result
overflow_cast-result c =
    let w = biased_working c.args.exponent c.requires in
    rw (sum_is c.args.exponent c.ranges.exponent c.requires) (tt, record { fits = omega (arith, w.2) })

pub returns : goal.returns
returns c =
    let w = biased_working c.args.exponent c.requires in
    rw (sum_is c.args.exponent c.ranges.exponent c.requires) (w.3, w.2)
