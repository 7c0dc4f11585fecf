-- `codes::decode::is_canonical` meets its contract: the top bit, as the machine makes it, is 2^(precision − 1).
use mathlib.Core.Path.{◌≡◌}
use mathlib.Core.Bool.{Bool, true, false, not, beq, and-false, and-true}
use Prim.Native.Nat.{◌-◌, ◌*◌, ◌%◌, ◌^◌}
use native.Mathlib.Omega.{arith}
use lib.Dec.{leb, ltb}
use lib.Ieee.{unlike}
use borrow.Author.Tests.{eq-eqb, ne_eqb, not-true, not-false}
use Rattle.codes.specs.Codes.{is_canonical}
use Rattle.codes.specs.Layout.{IsFormat}
use Rattle.codes.specs.declared.code.Code.{Code}
use Rattle.codes.specs.declared.code.Format.{Format}
use Rattle.codes.proofs.Laws.Leading.{one_bit}
use Rattle.codes.proofs.decode.is_canonical.Goals as goal

top_is : (f : Format) → IsFormat f → 1 * 2 ^ (f.precision - 1) % 2 ^ 64 ≡ 2 ^ (f.precision - 1)
top_is f formed = one_bit (f.precision - 1) (omega (arith, formed.some_bits, formed.word_bits))

-- so what the test of the top bit says
tested : (f : Format) (c : Code) (t : Bool) → IsFormat f → unlike (leb (1 * 2 ^ (f.precision - 1) % 2 ^ 64) c.significand) (ltb 0 c.field) ≡ t
    → beq (leb (2 ^ (f.precision - 1)) c.significand) (ltb 0 c.field) ≡ not t
tested f c true formed h = rw (← top_is f formed) (not-true _ h)
tested f c false formed h = rw (← top_is f formed) (not-false _ h)

pub returns-then-has_top-is_normal : goal.returns-then-has_top-is_normal
unfolding is_canonical
returns-then-has_top-is_normal g c = rw (← c.FORMAT.ensures, tested _ c.args.code _ (rw (← c.FORMAT.ensures) at g.met.F.Layout.formed) c.if-has_top-is_normal.true)

pub returns-then-has_bits : goal.returns-then-has_bits
unfolding is_canonical
returns-then-has_bits g c =
    let some = ne_eqb c.args.code.significand 0 (λ (z : c.args.code.significand ≡ 0). omega (arith, c.if-has_bits.true)) in
    rw (← c.FORMAT.ensures, tested _ c.args.code _ (rw (← c.FORMAT.ensures) at g.met.F.Layout.formed) c.if-has_top-is_normal.false, some, and-false c.args.code.negative)

pub returns : goal.returns
unfolding is_canonical
returns g c =
    let none : c.args.code.significand ≡ 0 = omega (arith, c.if-has_bits.false) in
    rw (← c.FORMAT.ensures, tested _ c.args.code _ (rw (← c.FORMAT.ensures) at g.met.F.Layout.formed) c.if-has_top-is_normal.false, eq-eqb _ 0 none, and-true c.args.code.negative)
