-- The terms of the private contracts of `top` and `decision`. No promise of a public function cites this file.
use Rattle.std.specs.Prelude.{Bool, true, false, cond, ℕ, ◌≡◌, ◌<◌, ◌+◌, ◌-◌, ◌*◌, ◌%◌, ◌^◌, leb, eqb, ℤ}
use Rattle.std.specs.Float.Ieee.{minus, unlike}
use Rattle.numbers.specs.Biased.{raise}
use Rattle.numbers.specs.Accuracy.{Marked, marked_as, refused_by}
use Rattle.numbers.specs.Answer.{Outcome, given, refused, checked, judged}
use Rattle.numbers.specs.Number.{is_working_exponent}
use Rattle.numbers.specs.Rounding.{whole_of, placed}
use Rattle.numbers.specs.declared.answer.Accuracy.{Accuracy}
use Rattle.numbers.specs.declared.answer.Accuracy.TheVariants as accuracy
use Rattle.numbers.specs.declared.task.Mode.{Mode}
use Rattle.numbers.specs.declared.top.Decision.{Decision}
use Rattle.numbers.specs.declared.top.Top.{Top}
use Rattle.numbers.specs.declared.task.Mode.TheVariants.{Trunc}

-- the exponent of a magnitude with its top bit at bit 127
abbrev pub exponent_of_top : Top → ℤ
exponent_of_top top = minus (top.exponent + 127) (raise + top.zeros)

-- an outcome whose number has a known accuracy
unfoldable pub told : Accuracy → Outcome → Marked
told mark (given y) = marked_as y mark
told mark (refused k) = refused_by k

-- where ± B lies, the true value being ± A: both have the sign s
unfoldable pub whole_accuracy : Bool → ℕ → ℕ → Accuracy
whole_accuracy false B A = cond (leb B A) (cond (leb A B) accuracy.Exact accuracy.Below) accuracy.Above
whole_accuracy true B A = cond (leb A B) (cond (leb B A) accuracy.Exact accuracy.Below) accuracy.Above

-- where a result lies of which the magnitude goes up, or else down, unless nothing is dropped
unfoldable pub accuracy_by : Bool → Bool → Bool → Accuracy
accuracy_by negative up inexact = cond inexact (cond (unlike up negative) accuracy.Above accuracy.Below) accuracy.Exact

-- what a mode decides of a magnitude F of 128 bits: the whole number q of its upper n bits, that q goes up, and where the result lies
pub record IsDecided (mode : Mode) (negative : Bool) (n F : ℕ) (d : Decision) : Type 0 where
  pub whole : whole_of mode negative F (2 ^ (128 - n)) ≡ d.whole + cond d.up 1 0
  pub small : d.whole < 2 ^ n
  pub lies : d.accuracy ≡ whole_accuracy negative (whole_of mode negative F (2 ^ (128 - n)) * 2 ^ (128 - n)) F

-- A magnitude F of 128 bits with its top bit set, whose exponent is e: rounded to its upper n bits, and claimed to have no more. Of the whole number the
-- last bit stands for 2^(128 − n).
unfoldable pub rounded_top : Mode → Bool → ℤ → ℕ → ℕ → Marked
rounded_top mode negative e n F =
    let q = whole_of mode negative F (2 ^ (128 - n)) in
    told (whole_accuracy negative (q * 2 ^ (128 - n)) F) (checked (placed negative e n q))

unfoldable pub judged_top : Bool → ℤ → ℕ → ℕ → Outcome
judged_top negative e n F =
    judged (is_working_exponent e) (eqb (F % 2 ^ (128 - n)) 0) (placed negative e n (whole_of Trunc negative F (2 ^ (128 - n))))

unfoldable pub claimed_top : Bool → ℤ → ℕ → ℕ → Marked
claimed_top negative e n F = told accuracy.Exact (judged_top negative e n F)
