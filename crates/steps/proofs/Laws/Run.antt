-- The run of the steps: a line of values that are known, one of the values in a list, and the steps that there are.
use mathlib.Core.Path.{◌≡◌, sym, ap, ap₂, ◌∙◌}
use mathlib.Core.Bool.{true}
use mathlib.Core.List.{List}
use Prim.Native.Nat.{ℕ, ◌≤◌}
use lib.ListN.{get_or}
use Rattle.numbers.specs.Answer.{Outcome, refused}
use Rattle.numbers.specs.Fraction.{Fraction}
use Rattle.numbers.specs.declared.number.Number.{Number}
use Rattle.numbers.specs.declared.task.Task.{Task}
use Rattle.numbers.proofs.Laws.Tests.{range_true}
use Rattle.steps.specs.Steps.{line_of, line_of_both}
use Rattle.steps.specs.Wanted.{is_step}

-- a line of one value, and of two, that are those after earlier steps
pub one : (task : Task) (exact : Number → Fraction) {r a x y : Outcome} → r ≡ line_of task exact a → a ≡ x → y ≡ line_of task exact x → r ≡ y
one task exact e f line = e ∙ ap (line_of task exact) f ∙ sym line

pub both : (task : Task) (exact : Fraction → Fraction → Fraction) {r a b x y z : Outcome} → r ≡ line_of_both task exact a b → a ≡ x → b ≡ y
    → z ≡ line_of_both task exact x y → r ≡ z
both task exact e f g line = e ∙ ap₂ (line_of_both task exact) f g ∙ sym line

-- one of the values in equal lists
pub item : {xs ys : List Outcome} (k : ℕ) → xs ≡ ys → get_or xs k (refused 6) ≡ get_or ys k (refused 6)
item k e = ap (λ (values : List Outcome). get_or values k (refused 6)) e

-- what the test of row 6 says
pub step_range : (k : ℕ) → is_step k ≡ true → (1 ≤ k) × (k ≤ 32)
unfolding is_step
step_range k h = range_true 1 32 k h
