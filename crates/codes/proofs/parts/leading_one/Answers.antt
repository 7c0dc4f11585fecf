-- `codes::parts::leading_one` meets its contract, by the tests of the format and of the field.
use native.Mathlib.Omega.{arith}
use borrow.Author.Tests.{lt-ltb, le-ltb}
use mathlib.Core.Bool.{and-false}
use Rattle.codes.specs.Codes.{leading_one}
use Rattle.codes.proofs.Laws.Leading.{one_bit}
use Rattle.codes.proofs.parts.leading_one.Goals as goal
use Rattle.codes.proofs.parts.leading_one.Goals.{else-format-via-then-format+else-field-gt0, else-format-via-else-format}

pub returns-then-field-gt0 : goal.returns-then-field-gt0
unfolding leading_one
returns-then-field-gt0 g c =
    let word = (rw (← c.FORMAT-format.ensures) at g.met.F.Layout.formed).word_bits in
    rw (← c.FORMAT-format.ensures) (rw (lt-ltb _ _ c.if-format.true, lt-ltb _ _ c.if-field-gt0.true) (one_bit c.FORMAT-format.result.stored (omega (arith, c.if-format.true, word))))

pub returns-else-format : goal.returns-else-format
unfolding leading_one
returns-else-format g c = rw (← c.FORMAT-format.ensures) (elim c.else-format.branch [
  | else-format-via-then-format+else-field-gt0 w ↦ rw (le-ltb _ _ w.if-field-gt0.false, and-false)
  | else-format-via-else-format w ↦ rw (le-ltb _ _ w.if-format.false)
])
