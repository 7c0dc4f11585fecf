-- The refusals in the table's order: what the test of row 2 says, and what `unless_indivisible`, rows 1 to 5, is behind each test. Rows 1 to 4
-- are those of every operation.
use Rattle.std.proofs.Common.{◌≡◌, ℕ, ◌<◌, ◌≤◌, Bool, true, false, cond, not, ltb, sym, refl, ap, ◌∙◌, ltb-false}
use mathlib.Core.Bool.{false≢true}
use Rattle.numbers.specs.Answer.{Outcome, given, refused, rounded, unless_unknown, unless_unfit}
use Rattle.numbers.specs.Fraction.{value, quotient}
use Rattle.numbers.specs.Number.{is_admissible}
use Rattle.numbers.specs.Rounding.{task_of, is_precision}
use Rattle.numbers.specs.declared.number.Number.{Number}
use Rattle.numbers.specs.declared.number.Number.TheVariants.{Zero}
use Rattle.numbers.specs.declared.task.Task.{Task}
use Rattle.numbers.proofs.Laws.Refusals as rows
use Rattle.numbers.proofs.Laws.Tests.{never}
use Rattle.division.specs.Quotient.{is_zero, unless_indivisible, quotient_of}
use Rattle.division.specs.Judgement.{IsTaken, IsTask}

-- a divisor is not zero
pub not_zero : (d : Number) → d ≡ Zero → is_zero d ≡ false → ⊥
unfolding is_zero
not_zero d is h = false≢true (sym h ∙ ap is_zero is)

-- what the test of row 2 says of a task
pub task_range : (task : Task) (code n : ℕ) → task ≡ task_of code n → is_precision n ≡ true → IsTask task
task_range task code n is precise = rw (is, rows.task_precision code n) (rows.precision_range n precise)

module _ (p d : Number) (code n : ℕ) (answer : Outcome) where
  pub unknown_mode : 5 < code → refused 1 ≡ unless_indivisible p d code n answer
  unfolding unless_indivisible
  unknown_mode h = rows.unknown_mode 5 code _ h

  module _ (c : code ≤ 5) where
    pub bad_precision : is_precision n ≡ false → refused 2 ≡ unless_indivisible p d code n answer
    unfolding unless_indivisible
    bad_precision h = rows.bad_precision is_admissible p n _ h ∙ rows.known_mode 5 code _ c

    module _ (precise : is_precision n ≡ true) where
      pub first_unfit : is_admissible p ≡ false → refused 3 ≡ unless_indivisible p d code n answer
      unfolding unless_indivisible
      first_unfit h = rows.first_unfit is_admissible p n _ precise h ∙ rows.known_mode 5 code _ c

      module _ (p-fit : is_admissible p ≡ true) where
        pub second_unfit : is_admissible d ≡ false → refused 4 ≡ unless_indivisible p d code n answer
        unfolding unless_indivisible
        second_unfit h = rows.second_unfit is_admissible p d n _ precise p-fit h ∙ rows.known_mode 5 code _ c

        module _ (d-fit : is_admissible d ≡ true) where
          pub zero_divisor : is_zero d ≡ true → refused 5 ≡ unless_indivisible p d code n answer
          unfolding unless_indivisible
          zero_divisor h = rw h (rows.none_unfit is_admissible p d n (refused 5) precise p-fit d-fit ∙ rows.known_mode 5 code _ c)

          pub divisible : is_zero d ≡ false → answer ≡ unless_indivisible p d code n answer
          unfolding unless_indivisible
          divisible h = rw h (rows.none_unfit is_admissible p d n answer precise p-fit d-fit ∙ rows.known_mode 5 code _ c)

-- a pair that no row refuses
pub taken : {p d : Number} {code n : ℕ} → IsTaken p d code n → (x : Outcome) → x ≡ unless_indivisible p d code n x
taken {p} {d} {code} {n} is x = divisible p d code n x is.mode (rows.range_precision n is.precise.0 is.precise.1) is.dividend is.divisor is.nonzero

-- and its task has a precision from 1 to 64
pub taken_task : {p d : Number} {code n : ℕ} → IsTaken p d code n → {task : Task} → task ≡ task_of code n → IsTask task
taken_task {code = code} {n = n} is {task} named = task_range task code n named (rows.range_precision n is.precise.0 is.precise.1)

pub quotient_taken : {p d : Number} {code n : ℕ} → IsTaken p d code n → quotient_of p d code n ≡ rounded (task_of code n) (quotient (value p) (value d))
unfolding quotient_of
quotient_taken {p} {d} {code} {n} is = sym (taken is (rounded (task_of code n) (quotient (value p) (value d))))

-- where every answer is left as it is, no row applies
pub divisible_taken : (p d : Number) (code n : ℕ) → ((x : Outcome) → x ≡ unless_indivisible p d code n x) → IsTaken p d code n
unfolding unless_indivisible unless_unknown unless_unfit
divisible_taken p d code n h = go (ltb 5 code) (is_precision n) (is_admissible p) (is_admissible d) (is_zero d) refl refl refl refl refl (h (given Zero))
  where
    refused_given : (k : ℕ) → given Zero ≡ refused k → ⊥
    refused_given k e = never cc

    go : (high precise first second none : Bool) → ltb 5 code ≡ high → is_precision n ≡ precise → is_admissible p ≡ first → is_admissible d ≡ second → is_zero d ≡ none
        → given Zero ≡ cond high (refused 1) (cond (not precise) (refused 2) (cond (not first) (refused 3) (cond (not second) (refused 4) (cond none (refused 5) (given Zero)))))
        → IsTaken p d code n
    go true precise first second none e f g k l m = absurd (refused_given 1 m)
    go false false first second none e f g k l m = absurd (refused_given 2 m)
    go false true false second none e f g k l m = absurd (refused_given 3 m)
    go false true true false none e f g k l m = absurd (refused_given 4 m)
    go false true true true true e f g k l m = absurd (refused_given 5 m)
    go false true true true false e f g k l m = record { mode = ltb-false 5 code e; precise = rows.precision_range n f; dividend = g; divisor = k; nonzero = l }
