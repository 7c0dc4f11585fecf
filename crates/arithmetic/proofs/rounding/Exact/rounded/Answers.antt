-- `arithmetic::rounding::Exact::rounded` meets its contract: 2^(x − 131,196) is 2^x / 2^131,196.
use Rattle.std.proofs.Common.{◌≡◌, ℕ, ◌≤◌, Bool, ℤ, pos, ◌-ℤ◌, sym, ap, ◌∙◌, arith, to_z-of_z, w32, SFits, to_z, of_z}
use lib.Ieee.{minus}
use mir.Facts.{to_z_pos}
use Rattle.numbers.specs.Accuracy.{marked_by}
use Rattle.numbers.specs.Cell.{end_of, cell_rounding}
use Rattle.numbers.specs.Rounding.{precision_of}
use Rattle.numbers.specs.Fraction.{scaled}
use Rattle.numbers.specs.declared.task.Task.{Task}
use Rattle.numbers.proofs.Laws.Minus.{pos_minus}
use Rattle.numbers.proofs.Laws.Refusals.{range_precision}
use Rattle.numbers.proofs.Laws.EveryValue.{scaled_binary}
use Rattle.numbers.proofs.Laws.SignedWords.{minus_fits}
use Rattle.arithmetic.specs.Private.{last_bit, exact_value}
use Rattle.arithmetic.proofs.rounding.Exact.rounded.Goals as goal

module _ (x : ℕ) (h : x ≤ 262142) where
  difference_is : to_z w32 x -ℤ pos 131196 ≡ minus x 131196
  difference_is = ap (λ (z : ℤ). z -ℤ pos 131196) (to_z_pos w32 {n = x} (omega arith)) ∙ pos_minus x 131196

  difference_fits : SFits w32 (to_z w32 x -ℤ pos 131196)
  difference_fits = rw difference_is (minus_fits x 131196 (omega arith) (omega arith))

  exponent_is : to_z w32 (of_z w32 (to_z w32 x -ℤ pos 131196)) ≡ minus x last_bit
  unfolding last_bit
  exponent_is = to_z-of_z difference_fits ∙ difference_is

answers : (task : Task) (negative : Bool) (F x : ℕ) (rest : Bool) (e : ℤ) → 1 ≤ precision_of task → precision_of task ≤ 64 → e ≡ minus x last_bit
    → cell_rounding negative F rest e task ≡ marked_by task (scaled negative (end_of F rest) x last_bit)
unfolding cell_rounding
answers task negative F x rest e n0 n1 is = rw (range_precision (precision_of task) n0 n1, is) (sym (scaled_binary task negative (end_of F rest) x last_bit n0))

pub overflow_sub-exponent : goal.overflow_sub-exponent
overflow_sub-exponent c = difference_fits _ c.args.self.biased

pub returns : goal.returns
unfolding exact_value
returns c =
    c.round_cell.ensures.0 ∙ answers _ _ _ _ _ _ c.requires.0 c.requires.1 (exponent_is _ c.args.self.biased)
