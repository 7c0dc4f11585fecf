-- `numbers::top::Top::claimed` meets its contract: the exponent is judged first, then whether a bit below the upper n is set.
use mathlib.Core.Path.{◌≡◌, sym, ap, ◌∙◌}
use mathlib.Core.Bool.{Bool, true, false}
use Prim.Native.Nat.{ℕ, ◌+◌, ◌-◌, ◌*◌, ◌/◌, ◌%◌, ◌^◌, ◌≤◌, ◌<◌}
use native.Mathlib.Omega.{arith}
use borrow.Author.Tests.{ltb-true, ltb-false, ne_eqb, eq-eqb}
use lib.Dec.{ltb}
use lib.IntN.{ℤ}
use Rattle.std.specs.Prelude.{Err}
use Rattle.refusals.specs.Row.{row_number}
use Rattle.refusals.specs.declared.Refusal.TheVariants.{ExponentOutside, TooManyBits}
use Rattle.numbers.specs.Answer.{given, checked, judged, answer_outcome}
use Rattle.numbers.specs.Grid.{bit_of}
use Rattle.numbers.specs.Number.{is_working_exponent}
use Rattle.numbers.specs.Cell.{wide}
use Rattle.numbers.specs.Magnitude.{judged_top}
use Rattle.numbers.specs.declared.number.Number.TheVariants.{Finite}
use Rattle.numbers.proofs.Laws.Top.{top_bits, upper_bits}
use Rattle.numbers.proofs.top.Top.claimed.Goals as goal

outside : (negative : Bool) (e : ℤ) (n F : ℕ) (inside : Bool) → inside ≡ is_working_exponent e → inside ≡ false → answer_outcome (Err ExponentOutside) ≡ judged_top negative e n F
unfolding answer_outcome row_number judged_top judged
outside negative e n F inside judged h = rw (sym judged ∙ h)

module _ (negative : Bool) (e : ℤ) (F n high low : ℕ) (rest inside inexact : Bool) (n1 : n ≤ 64) (word : low < 2 ^ 64)
    (shifted : wide high low ≡ F / 2 ^ (64 - n)) (dropped : rest ≡ ltb 0 (F % 2 ^ (64 - n))) (judged : inside ≡ is_working_exponent e) (some : inexact ≡ ltb 0 (2 * low + bit_of rest)) where
  bits : ltb 0 (F % 2 ^ (128 - n)) ≡ inexact
  bits = top_bits F n high low rest n1 word shifted dropped ∙ sym some

  too_many : inside ≡ true → inexact ≡ true → answer_outcome (Err TooManyBits) ≡ judged_top negative e n F
  unfolding answer_outcome row_number judged_top judged
  too_many h k = rw (sym judged ∙ h, ne_eqb (F % 2 ^ (128 - n)) 0 (λ (z : F % 2 ^ (128 - n) ≡ 0). let l = ltb-true 0 (F % 2 ^ (128 - n)) (bits ∙ k) in omega arith))

  none : F < 2 ^ 128 → inside ≡ true → inexact ≡ false → checked (Finite negative e (high * 2 ^ (64 - n) % 2 ^ 64)) ≡ judged_top negative e n F
  unfolding checked judged_top judged
  none F1 h k =
      rw (sym judged ∙ h, eq-eqb (F % 2 ^ (128 - n)) 0 (let l = ltb-false 0 (F % 2 ^ (128 - n)) (bits ∙ k) in omega arith))
      (ap given (upper_bits F n high low rest n1 word shifted dropped F1 negative e))

pub returns-then-outside : goal.returns-then-outside
returns-then-outside c = outside _ _ _ _ _ c.is_inside-outside.ensures c.if-outside.true

pub returns-then-exact : goal.returns-then-exact
returns-then-exact c =
    c.checked.ensures
    ∙ none _ _ _ _ _ _ c.shift_right-cell.result.rest _ _ c.requires.2 (omega arith) c.shift_right-cell.ensures.0 c.shift_right-cell.ensures.1 c.is_inside-outside.ensures c.has_fraction-exact.ensures
    c.requires.0 c.if-outside.false c.if-exact.true

pub returns : goal.returns
returns c =
    too_many _ _ _ _ _ _ c.shift_right-cell.result.rest _ _ c.requires.2 (omega arith) c.shift_right-cell.ensures.0 c.shift_right-cell.ensures.1 c.is_inside-outside.ensures c.has_fraction-exact.ensures
    c.if-outside.false c.if-exact.false
