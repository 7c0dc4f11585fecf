-- `numbers::words::cut` meets its contract. The bits that a cut drops are those that the shift left by the rest of the word keeps.
use mathlib.Core.Path.{refl}
use native.Mathlib.Nat.{le_of_lt, lt_of_lt_of_le}
use lib.Pow.{pow_mono}
use Rattle.numbers.proofs.Laws.Words.{all_cut, powers, swapped, dropped}
use Rattle.numbers.proofs.words.cut.Goals as goal

pub returns-then-by-lt64 : goal.returns-then-by-lt64
returns-then-by-lt64 c = (refl, dropped (swapped (powers _ 64 (le_of_lt c.if-by-lt64.true))) _)

pub returns : goal.returns
returns c = all_cut _ _ (lt_of_lt_of_le c.ranges.a.fits (pow_mono c.if-by-lt64.false))
