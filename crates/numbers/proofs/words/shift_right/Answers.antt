-- `numbers::words::shift_right` meets its contract. What is dropped is what the cut of one word drops, and the whole low word where the shift is by a word or more.
use native.Mathlib.Nat.{le_of_lt}
use mir.Facts.{Fits-of_lt}
use Rattle.numbers.specs.Cell.{wide}
use Rattle.numbers.proofs.Laws.Words.{powers, swapped, right, right_word}
use Rattle.numbers.proofs.words.shift_right.Goals as goal

pub overflow_add-result : goal.overflow_add-result
unfolding wide
overflow_add-result c = Fits-of_lt (rw c.cut-low.ensures.0 (right (swapped (powers _ 64 (le_of_lt c.if-by-lt64.true))) _ _ c.struct_known-then-by-lt64-1.given.1.0.fits).1)

pub returns-then-by-lt64 : goal.returns-then-by-lt64
unfolding wide
returns-then-by-lt64 c =
    let all = right (swapped (powers _ 64 (le_of_lt c.if-by-lt64.true))) _ _ c.struct_known-then-by-lt64-1.given.1.0.fits in
    rw (c.cut-low.ensures.0, c.cut-low.ensures.1) (all.0, all.2)

pub returns-then-a-gt0 : goal.returns-then-a-gt0
unfolding wide
returns-then-a-gt0 c =
    let all = right_word (powers 64 _ c.if-by-lt64.false) _ _ c.struct_known-2-1.given.1.0.fits in
    rw c.cut-high.ensures.0 (all.0, all.1 c.if-a-gt0.true)

pub returns : goal.returns
unfolding wide
returns c =
    let all = right_word (powers 64 _ c.if-by-lt64.false) _ _ c.struct_known-2-1.given.1.0.fits in
    rw (c.cut-high.ensures.0, c.cut-high.ensures.1) (all.0, all.2 c.if-a-gt0.false)
