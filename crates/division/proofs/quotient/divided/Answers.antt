-- `division::quotient::divided` meets its contract: the quotient lies in the cell of its digits (Laws.Rounds). Zero over anything is zero.
use Rattle.std.proofs.Common.{◌≡◌, sym, ◌∙◌, w32, SFits, rules}
use Rattle.std.specs.Prelude.{Ok}
use Rattle.numbers.specs.Accuracy.{marked_answer, marked_by}
use Rattle.numbers.specs.Fraction.{value, quotient}
use Rattle.numbers.specs.declared.answer.Accuracy.TheVariants as accuracy
use Rattle.numbers.specs.declared.number.Number.{Number}
use Rattle.numbers.specs.declared.number.Number.TheVariants.{Zero}
use Rattle.numbers.specs.declared.task.Task.{Task}
use Rattle.numbers.proofs.Laws.Fractions.{quotient_zero}
use Rattle.numbers.proofs.Laws.Marked.{zero_mark}
use Rattle.numbers.proofs.Laws.Scaled.{zero_value}
use Rattle.division.proofs.Laws.Divisible.{not_zero}
use Rattle.division.proofs.Laws.Rounds.{both_significands, difference_fits, less_fits, exponent_is, quotient_rounds}
use Rattle.division.proofs.quotient.divided.Goals as goal

zero_dividend : (task : Task) (p d : Number) → p ≡ Zero → marked_answer (Ok (record { number = Zero; accuracy = accuracy.Exact })) ≡ marked_by task (quotient (value p) (value d))
unfolding marked_answer
zero_dividend task p d is = rw is (sym (zero_mark task (quotient (value Zero) (value d)) (quotient_zero (value Zero) (value d) zero_value)))

pub returns-in_default : goal.returns-in_default
returns-in_default c = zero_dividend _ _ _ c.in_default.is

pub unreachable-requires : goal.unreachable-requires
unreachable-requires c = not_zero _ c.in_default-d.is c.requires.2

pub invariant_of-digits_of : goal.invariant_of-digits_of
invariant_of-digits_of c = record { in_range = (both_significands _ _ _ _ _ _ _ _ c.in-Finite.is c.in-Finite-d.is c.requires.0 c.requires.1).0 }

pub invariant_of-digits_of-2 : goal.invariant_of-digits_of-2
invariant_of-digits_of-2 c = record { in_range = (both_significands _ _ _ _ _ _ _ _ c.in-Finite.is c.in-Finite-d.is c.requires.0 c.requires.1).1 }

pub overflow_sub-p_exponent : goal.overflow_sub-p_exponent
overflow_sub-p_exponent c =
    let p-fits : SFits w32 c.in-Finite.p_exponent = search rules in
    let d-fits : SFits w32 c.in-Finite-d.d_exponent = search rules in
    difference_fits _ _ _ _ _ _ _ _ c.in-Finite.is c.in-Finite-d.is c.requires.0 c.requires.1 p-fits d-fits

pub overflow_sub-p_exponent-2 : goal.overflow_sub-p_exponent-2
overflow_sub-p_exponent-2 c =
    let p-fits : SFits w32 c.in-Finite.p_exponent = search rules in
    let d-fits : SFits w32 c.in-Finite-d.d_exponent = search rules in
    less_fits _ _ _ _ _ _ _ _ c.in-Finite.is c.in-Finite-d.is c.requires.0 c.requires.1 p-fits d-fits

pub returns : goal.returns
returns c =
    let p-fits : SFits w32 c.in-Finite.p_exponent = search rules in
    let d-fits : SFits w32 c.in-Finite-d.d_exponent = search rules in
    c.round_cell.ensures.0
    ∙ quotient_rounds _ _ _ _ _ _ _ _ c.in-Finite.is c.in-Finite-d.is c.requires.0 c.requires.1 _ _ c.digits_of-digits.ensures _ c.requires.3 _
    (exponent_is _ _ _ _ _ _ _ _ c.in-Finite.is c.in-Finite-d.is c.requires.0 c.requires.1 p-fits d-fits)
