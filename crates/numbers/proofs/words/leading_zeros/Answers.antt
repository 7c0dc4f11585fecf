-- `numbers::words::leading_zeros` meets its contract. The top bit of a magnitude is that of its high word, or of its low word where the high one is 0.
use Prim.Native.Nat.{◌+◌}
use native.Mathlib.Nat.{pos_of_ne-zero}
use native.Mathlib.Omega.{arith}
use lib.Count.{leading_top}
use Rattle.numbers.specs.Cell.{wide}
use Rattle.numbers.proofs.Laws.Words.{raised, top}
use Rattle.numbers.proofs.Laws.Wide.{wide_low}
use Rattle.numbers.proofs.words.leading_zeros.Goals as goal

pub returns-then-a-eq0 : goal.returns-then-a-eq0
returns-then-a-eq0 c =
    let same = wide_low _ c.args.a.low c.if-a-eq0.true in
    let first = leading_top 64 _ (rw same at c.requires) c.struct_known-then-a-eq0-1.given.1.0.fits in
    rw same (raised 127 first.0 _ _ (omega arith) first.2 first.3)

pub returns-else-a-eq0 : goal.returns-else-a-eq0
unfolding wide
returns-else-a-eq0 c =
    let first = leading_top 64 _ (pos_of_ne-zero c.if-a-eq0.false) c.struct_known-else-a-eq0-1.given.0.fits in
    let whole = top 64 first.0 _ _ c.struct_known-else-a-eq0-1.given.1.0.fits first.2 first.3 in
    raised 127 (first.0 + 64) _ _ (omega arith) whole.0 whole.1
