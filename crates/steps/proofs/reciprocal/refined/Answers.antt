-- `steps::reciprocal::refined` meets its contract: 2 − 2^−31 less t is c(t), exact, and only the product is rounded.
use mathlib.Core.Path.{◌≡◌, refl, ap, ◌∙◌}
use mathlib.Core.Bool.{false}
use Prim.Native.Nat.{◌≤◌}
use lib.Dec.{lit≤}
use lib.IntN.{pos}
use Rattle.numbers.specs.Answer.{Outcome, given, refused, rounded}
use Rattle.numbers.specs.Fraction.{Equal, value, signed, difference, product}
use Rattle.numbers.specs.Number.{is_between, is_significand, is_working_exponent, is_fit}
use Rattle.numbers.specs.Rounding.{claim, precision_of}
use Rattle.numbers.specs.declared.number.Number.{Number}
use Rattle.numbers.specs.declared.number.Number.TheVariants.{Finite}
use Rattle.numbers.specs.declared.task.Task.{Task}
use Rattle.numbers.proofs.Laws.Scaled.{value_fraction}
use Rattle.numbers.proofs.Laws.Fractions.{difference_fraction, difference_equal, product_fraction, product_equal}
use Rattle.numbers.proofs.Laws.Value.{same_outcome}
use Rattle.steps.specs.Run.{line_outcome, HasComplement}
use Rattle.steps.specs.Steps.{complement, refined, line_of_both}
use Rattle.steps.proofs.Laws.Complement.{two_less, complement_fraction, refined_fraction}
use Rattle.steps.proofs.reciprocal.refined.Goals as goal

-- the code's 2 − 2^−31
made : Number
made = Finite false (pos 0) 0xFFFFFFFF00000000

made_is : Equal (value made) two_less
unfolding made Equal value signed difference
made_is = refl

-- less t it is c(t)
made_less : (t : Number) → rounded (claim 64) (difference (value made) (value t)) ≡ rounded (claim 64) (complement (value t))
unfolding complement Equal
made_less t =
    same_outcome (claim 64) (difference (value made) (value t)) (complement (value t)) (difference_fraction (value made) (value t) (value_fraction made) (value_fraction t))
    (complement_fraction (value t) (value_fraction t)) (lit≤ tt) (difference_equal (value made) (value t) two_less (value t) made_is refl)

-- the product with c(t), as the line has it
refined_line : (task : Task) (s t c r : Outcome) → 1 ≤ precision_of task → HasComplement t → c ≡ line_of_both (claim 64) difference (given made) t
    → r ≡ line_of_both task product s c → r ≡ line_of_both task refined s t
unfolding line_of_both HasComplement refined Equal
refined_line task (refused k) t c r n0 has e f = f
refined_line task (given x) (refused k) c r n0 has e f = f ∙ ap (line_of_both task product (given x)) e
refined_line task (given x) (given t) c r n0 has e f =
    let y = value has.0 in
    let y0 = value_fraction has.0 in
    let x0 = value_fraction x in
    let t0 = value_fraction t in
    f
    ∙ ap (line_of_both task product (given x)) (e ∙ made_less t ∙ has.1)
    ∙ same_outcome task (product (value x) y) (refined (value x) (value t)) (product_fraction (value x) y x0 y0) (refined_fraction (value x) (value t) x0 t0) n0
    (product_equal (value x) y (value x) (complement (value t)) refl has.2)

pub invariant_of-combined : goal.invariant_of-combined
unfolding is_fit is_significand is_working_exponent is_between
invariant_of-combined c = record { fit = refl }

pub returns : goal.returns
unfolding line_outcome made
returns c = refined_line _ _ _ _ _ (lit≤ tt) c.requires c.combined-c.ensures c.combined.ensures
