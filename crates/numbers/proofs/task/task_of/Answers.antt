-- `numbers::task::task_of` meets its contract: each mode has its own case of `task_of`, and a code above 5 the last one.
use mathlib.Core.Path.{◌≡◌, refl, ap, ◌∙◌}
use Prim.Native.Nat.{ℕ, ◌<◌}
use native.Mathlib.Omega.{arith}
use borrow.Author.Tests.{ne_eqb}
use Rattle.numbers.specs.Rounding.{code_of, by_mode, claim, task_of}
use Rattle.numbers.specs.declared.task.Mode.{Mode}
use Rattle.numbers.specs.declared.task.Mode.TheVariants.{Trunc, Away, Near, Sticky, Up, Down}
use Rattle.numbers.proofs.task.task_of.Goals as goal

by_code : (mode : Mode) (n : ℕ) → by_mode mode n ≡ task_of (code_of mode) n
unfolding task_of
by_code Trunc n = refl
by_code Away n = refl
by_code Near n = refl
by_code Sticky n = refl
by_code Up n = refl
by_code Down n = refl

above : (code n : ℕ) → 5 < code → claim n ≡ task_of code n
unfolding task_of
above code n h =
    rw (ne_eqb code 0 (omega arith), ne_eqb code 1 (omega arith), ne_eqb code 2 (omega arith), ne_eqb code 3 (omega arith), ne_eqb code 4 (omega arith), ne_eqb code 5 (omega arith))

pub returns-in-Ok : goal.returns-in-Ok
returns-in-Ok c = by_code c.in-Ok.mode c.args.precision ∙ ap (λ (code : ℕ). task_of code c.args.precision) c.in-Ok.ensures

pub returns-in-Err : goal.returns-in-Err
returns-in-Err c = above c.args.code c.args.precision c.in-Err.ensures.1
