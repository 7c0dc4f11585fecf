-- `numbers::words::shift_left` meets its contract. The bits that leave the low word are its high bits, and a bound on the result says that none leaves the high word.
use native.Mathlib.Nat.{le_of_lt}
use mir.Facts.{Fits-of_lt}
use Rattle.numbers.specs.Cell.{wide}
use Rattle.numbers.proofs.Laws.Words.{powers, left, left_word}
use Rattle.numbers.proofs.words.shift_left.Goals as goal

pub overflow_add-result : goal.overflow_add-result
unfolding wide
overflow_add-result c = Fits-of_lt (left (powers _ 64 (le_of_lt c.if-by-lt64.true)) _ _ c.requires.1).1

pub returns-then-by-lt64 : goal.returns-then-by-lt64
unfolding wide
returns-then-by-lt64 c = (left (powers _ 64 (le_of_lt c.if-by-lt64.true)) _ _ c.requires.1).0

pub returns : goal.returns
unfolding wide
returns c = left_word (powers 64 _ c.if-by-lt64.false) _ _ c.requires.1
