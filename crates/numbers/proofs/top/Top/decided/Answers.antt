-- `numbers::top::Top::decided` meets its contract: the upper n bits are the whole number that `whole_of` starts from.
use mathlib.Core.Path.{◌≡◌, sym, ap, ◌∙◌}
use mathlib.Core.Bool.{Bool, cond}
use Prim.Native.Nat.{ℕ, ◌+◌, ◌-◌, ◌*◌, ◌/◌, ◌%◌, ◌^◌, ◌≤◌, ◌<◌}
use native.Mathlib.Omega.{arith}
use lib.Dec.{ltb}
use Rattle.numbers.specs.Grid.{bit_of}
use Rattle.numbers.specs.Rounding.{goes_up, whole_of}
use Rattle.numbers.specs.Cell.{wide}
use Rattle.numbers.specs.Magnitude.{accuracy_by, IsDecided}
use Rattle.numbers.specs.declared.answer.Accuracy.{Accuracy}
use Rattle.numbers.specs.declared.task.Mode.{Mode}
use Rattle.numbers.proofs.Laws.Top.{top_whole, top_accuracy, high_small}
use Rattle.numbers.proofs.top.Top.decided.Goals as goal

module _ (mode : Mode) (negative : Bool) (F n high low : ℕ) (rest up inexact : Bool) (mark : Accuracy) (n0 : 1 ≤ n) (n1 : n ≤ 64) (F1 : F < 2 ^ 128) (word : low < 2 ^ 64)
    (shifted : wide high low ≡ F / 2 ^ (64 - n)) (dropped : rest ≡ ltb 0 (F % 2 ^ (64 - n)))
    (decided : up ≡ goes_up mode negative high (2 * low + bit_of rest) (2 ^ 65)) (some : inexact ≡ ltb 0 (2 * low + bit_of rest)) (lies : mark ≡ accuracy_by negative up inexact) where
  whole : whole_of mode negative F (2 ^ (128 - n)) ≡ high + cond up 1 0
  whole = top_whole F n high low rest n1 word shifted dropped mode negative ∙ ap (λ (b : Bool). high + cond b 1 0) (sym decided)

  small : high < 2 ^ n
  small = high_small F n high low rest n1 word shifted dropped F1

  decides : IsDecided mode negative n F (record { whole = high; up = up; accuracy = mark })
  decides = record { whole = whole; small = small; lies = lies ∙ top_accuracy F n high low rest n1 word shifted dropped mode negative up inexact decided some }

pub returns : goal.returns
returns c =
    decides _ _ _ _ _ _ c.shift_right-cell.result.rest _ _ _ c.requires.1 c.requires.2 c.requires.0 (omega arith) c.shift_right-cell.ensures.0 c.shift_right-cell.ensures.1
    c.goes_up-up.ensures c.has_fraction-inexact.ensures c.accuracy_of-accuracy.ensures
