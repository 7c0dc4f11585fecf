-- Tasks by their codes; the refusals 1 to 4 in the table's order: what `unless_unknown`, `unless_unfit` and `unless_either_unfit` are behind each test.
use mathlib.Core.Path.{◌≡◌, refl}
use mathlib.Core.Bool.{Bool, true, false, cond}
use Prim.Native.Nat.{ℕ, zero, suc, ◌≤◌, ◌<◌}
use native.Mathlib.Omega.{arith}
use lib.Dec.{eqb}
use borrow.Author.Tests.{lt-ltb, le-ltb, le-leb}
use Rattle.numbers.specs.Rounding.{by_mode, task_of, is_precision, precision_of}
use Rattle.numbers.specs.Answer.{Outcome, refused, unless_unknown, unless_unfit, unless_either_unfit}
use Rattle.numbers.specs.declared.number.Number.{Number}
use Rattle.numbers.specs.declared.task.Mode.{Mode}
use Rattle.numbers.specs.declared.task.Mode.TheVariants.{Trunc, Away, Near, Sticky, Up, Down}
use Rattle.numbers.specs.declared.task.Task.{Task}
use Rattle.numbers.proofs.Laws.Tests.{range_true}

-- a task has the precision that it was made with
pub task_precision : (code n : ℕ) → precision_of (task_of code n) ≡ n
unfolding task_of
task_precision code n =
    either (eqb code 0) _ _ refl (either (eqb code 1) _ _ refl (either (eqb code 2) _ _ refl (either (eqb code 3) _ _ refl (either (eqb code 4) _ _ refl (either (eqb code 5) _ _ refl refl)))))
  where
    either : (b : Bool) (x y : Task) → precision_of x ≡ n → precision_of y ≡ n → precision_of (cond b x y) ≡ n
    either true x y p q = p
    either false x y p q = q

-- the mode of a code from 0 to 5
pub mode_of_is : (code n : ℕ) → code ≤ 5 → (mode : Mode) × (task_of code n ≡ by_mode mode n)
unfolding task_of
mode_of_is zero n h = (Trunc, refl)
mode_of_is (suc zero) n h = (Away, refl)
mode_of_is (suc (suc zero)) n h = (Near, refl)
mode_of_is (suc (suc (suc zero))) n h = (Sticky, refl)
mode_of_is (suc (suc (suc (suc zero)))) n h = (Up, refl)
mode_of_is (suc (suc (suc (suc (suc zero))))) n h = (Down, refl)
mode_of_is (suc (suc (suc (suc (suc (suc k)))))) n h = absurd (omega arith)

pub precision_range : (n : ℕ) → is_precision n ≡ true → (1 ≤ n) × (n ≤ 64)
unfolding is_precision
precision_range n h = range_true 1 64 n h

pub range_precision : (n : ℕ) → 1 ≤ n → n ≤ 64 → is_precision n ≡ true
unfolding is_precision
range_precision n n0 n1 = rw (le-leb 1 n n0, le-leb n 64 n1)

-- row 1
module _ (last code : ℕ) (answer : Outcome) where
  pub unknown_mode : last < code → refused 1 ≡ unless_unknown last code answer
  unfolding unless_unknown
  unknown_mode h = rw (lt-ltb last code h)

  pub known_mode : code ≤ last → answer ≡ unless_unknown last code answer
  unfolding unless_unknown
  known_mode h = rw (le-ltb last code h)

-- rows 2 and 3
module _ (fit : Number → Bool) (a : Number) (n : ℕ) (answer : Outcome) where
  pub bad_precision : is_precision n ≡ false → refused 2 ≡ unless_unfit fit a n answer
  unfolding unless_unfit
  bad_precision h = rw h

  module _ (precise : is_precision n ≡ true) where
    pub first_unfit : fit a ≡ false → refused 3 ≡ unless_unfit fit a n answer
    unfolding unless_unfit
    first_unfit h = rw (precise, h)

    pub first_fit : fit a ≡ true → answer ≡ unless_unfit fit a n answer
    unfolding unless_unfit
    first_fit h = rw (precise, h)

-- row 4
module _ (fit : Number → Bool) (a b : Number) (n : ℕ) (answer : Outcome) (precise : is_precision n ≡ true) (h : fit a ≡ true) where
  pub second_unfit : fit b ≡ false → refused 4 ≡ unless_either_unfit fit a b n answer
  second_unfit k = rw k (first_fit fit a n (refused 4) precise h)

  pub none_unfit : fit b ≡ true → answer ≡ unless_either_unfit fit a b n answer
  none_unfit k = rw k (first_fit fit a n answer precise h)
