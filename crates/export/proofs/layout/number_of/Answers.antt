-- `export::layout::number_of` meets its contract: each way out has the tests of `number_of` behind it.
use borrow.Author.Rules.{rules}
use borrow.Author.Tests.{lt-ltb, le-ltb, eq-eqb, ne_eqb}
use mathlib.Core.Path.{◌≡◌}
use Prim.Native.Nat.{ℕ, ◌≤◌, ◌<◌}
use native.Mathlib.Omega.{arith}
use lib.Dec.{ltb, eqb}
use mathlib.Core.Bool.{true, false}
use mir.Facts.{to_z-of_z}
use mir.Syntax.{w32}
use mir.Val.{SFits}
use Rattle.export.specs.Layout.{number_of}
use Rattle.export.proofs.Laws.Exponents.{cast_exponent}
use Rattle.export.proofs.layout.number_of.Goals as goal
use Rattle.export.proofs.layout.number_of.Goals.{then-significand-gt0-via-then-significand-gt0, then-significand-gt0-via-else-significand-gt0+then-word-gt0}

-- the tests of a word, by its fact
none : (n : ℕ) → n ≤ 0 → (ltb 2 n ≡ false) × (ltb 0 n ≡ false) × (eqb n 0 ≡ true)
none n h = (le-ltb 2 n (omega arith), le-ltb 0 n h, eq-eqb n 0 (omega arith))

some : (n : ℕ) → 0 < n → eqb n 0 ≡ false
some n h = ne_eqb n 0 (λ (e : n ≡ 0). omega arith)

pub returns-then-kind-gt-HIGHEST_KIND : goal.returns-then-kind-gt-HIGHEST_KIND
unfolding number_of
returns-then-kind-gt-HIGHEST_KIND c = rw (lt-ltb 2 c.args.kind (omega arith))

pub returns-then-kind-gt0 : goal.returns-then-kind-gt0
unfolding number_of
returns-then-kind-gt0 c =
    let fits : SFits w32 c.cast_signed.result = search rules in
    rw (le-ltb 2 c.args.kind (omega arith), lt-ltb 0 _ c.if-kind-gt0.true, to_z-of_z fits, c.cast_signed.ensures, cast_exponent c.args.word c.ranges.word.fits)

pub returns-then-significand-gt0 : goal.returns-then-significand-gt0
unfolding number_of
returns-then-significand-gt0 c =
    elim c.then-significand-gt0.branch [
      | then-significand-gt0-via-then-significand-gt0 w ↦ rw ((none _ c.if-kind-gt0.false).0, (none _ c.if-kind-gt0.false).1, some _ w.if-significand-gt0.true)
      | then-significand-gt0-via-else-significand-gt0+then-word-gt0 w ↦
          rw ((none _ c.if-kind-gt0.false).0, (none _ c.if-kind-gt0.false).1, (none _ w.if-significand-gt0.false).2, some _ w.if-word-gt0.true)
    ]

pub returns : goal.returns
unfolding number_of
returns c = rw ((none _ c.if-kind-gt0.false).0, (none _ c.if-kind-gt0.false).1, (none _ c.if-significand-gt0.false).2, (none _ c.if-word-gt0.false).2)
