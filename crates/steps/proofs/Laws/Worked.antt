-- The values after steps 1 to 8 of an admissible divisor: none of these steps fails its claim, and c(t) is exact where it is taken.
use mathlib.Core.Path.{◌≡◌, sym, subst, ap, ap₂, ◌∙◌}
use mathlib.Core.Bool.{Bool, true, false, false≢true}
use Prim.Native.Nat.{ℕ}
use lib.Ieee.{minus}
use lib.IntN.{ℤ}
use Rattle.numbers.specs.Biased.{bias}
use Rattle.numbers.specs.Answer.{given}
use Rattle.numbers.specs.Fraction.{difference, product}
use Rattle.numbers.specs.Number.{is_admissible}
use Rattle.numbers.specs.Rounding.{by_mode, claim}
use Rattle.numbers.specs.declared.number.Number.{Number}
use Rattle.numbers.specs.declared.number.Number.TheVariants.{Zero, Finite}
use Rattle.numbers.specs.declared.task.Mode.TheVariants.{Trunc, Away}
use Rattle.numbers.specs.declared.task.Task.{Task}
use Rattle.division.specs.Quotient.{is_zero}
use Rattle.division.proofs.Laws.Admissible.{admissible_parts}
use Rattle.division.proofs.Laws.Range.{InRange, lowest_admissible}
use Rattle.steps.specs.Run.{HasComplement}
use Rattle.steps.specs.Steps.{refined, line_of, line_of_both, after_step}
use Rattle.steps.proofs.Laws.Complement.{has_complement}
use Rattle.steps.proofs.Laws.Halves.{halves}
use Rattle.steps.proofs.Laws.Reciprocal.{reciprocal}
use Rattle.steps.proofs.Laws.Terms.{HasReciprocal, HasHalves}
use Rattle.steps.proofs.TableLines.{line_1, line_2, line_3, line_4, line_5, line_6, line_7, line_8}

-- the reciprocal and the halves are the values after the steps
pub record IsWorked {s : Bool} {b D : ℕ} {d : Number} (r : HasReciprocal s b D d) (h : HasHalves s b D d) (p : Number) (task : Task) : Type 0 where
  pub after_1 : after_step p d task 1 ≡ given r.s0
  pub after_2 : after_step p d task 2 ≡ given r.dr
  pub after_3 : after_step p d task 3 ≡ given r.t0
  pub after_4 : after_step p d task 4 ≡ given r.s1
  pub after_5 : after_step p d task 5 ≡ given r.t1
  pub after_6 : after_step p d task 6 ≡ given r.s2
  pub after_7 : after_step p d task 7 ≡ given h.h
  pub after_8 : after_step p d task 8 ≡ given h.l

pub worked : {s : Bool} {b D : ℕ} {d : Number} (r : HasReciprocal s b D d) (h : HasHalves s b D d) (p : Number) (task : Task) → IsWorked r h p task
unfolding line_of line_of_both
worked {d = d} r h p task =
    let first = line_1 p d task ∙ r.step_1 in
    let second = line_2 p d task ∙ r.step_2 in
    let third = line_3 p d task ∙ ap₂ (line_of_both (by_mode Away 32) product) first second ∙ r.step_3 in
    let fourth = line_4 p d task ∙ ap₂ (line_of_both (by_mode Trunc 32) refined) first third ∙ r.step_4 in
    let fifth = line_5 p d task ∙ ap₂ (line_of_both (by_mode Away 32) product) fourth second ∙ r.step_5 in
    let seventh = line_7 p d task ∙ h.step_7 in
    record {
      after_1 = first;
      after_2 = second;
      after_3 = third;
      after_4 = fourth;
      after_5 = fifth;
      after_6 = line_6 p d task ∙ ap₂ (line_of_both (by_mode Trunc 32) refined) fourth fifth ∙ r.step_6;
      after_7 = seventh;
      after_8 = line_8 p d task ∙ ap (line_of_both (claim 32) difference (given d)) seventh ∙ h.step_8;
    }

-- c(t) is exact after steps 3 and 5, for any admissible divisor but zero
pub has_complements : (p d : Number) (task : Task) → is_admissible d ≡ true → is_zero d ≡ false → HasComplement (after_step p d task 3) × HasComplement (after_step p d task 5)
unfolding is_zero
has_complements p Zero task fit nonzero = absurd (false≢true (sym nonzero))
has_complements p (Finite s e S) task fit nonzero =
    let a = admissible_parts (Finite s e S) fit in
    subst (λ (z : ℤ). HasComplement (after_step p (Finite s z S) task 3) × HasComplement (after_step p (Finite s z S) task 5)) (sym a.1) (complements a.0 a.2)
  where
    complements : (b : ℕ) → InRange lowest_admissible b S
        → HasComplement (after_step p (Finite s (minus b bias) S) task 3) × HasComplement (after_step p (Finite s (minus b bias) S) task 5)
    complements b range =
        let r = reciprocal s b S range in
        let w = worked r (halves s b S range) p task in
        (rw w.after_3 (has_complement r.t0 r.below_two_0), rw w.after_5 (has_complement r.t1 r.below_two_1))
