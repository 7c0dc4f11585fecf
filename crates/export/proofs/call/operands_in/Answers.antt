-- `export::call::operands_in` meets its contract: each way out has the tests of `operands_of` behind it.
use Rattle.std.proofs.Common.{◌≡◌, List, ℕ, length, Err, ap, sym, ◌∙◌}
use Rattle.std.specs.declared.result.Result.{Result}
use Rattle.numbers.specs.declared.number.Number.{Number}
use Rattle.export.specs.declared.call.NoOperands.{NoOperands}
use borrow.Author.Tests.{eq-eqb, ne_eqb}
use Rattle.std.proofs.lemmas.Result.{err_from_is_err_and}
use Rattle.export.specs.Calls.{is_sixteen}
use Rattle.export.specs.Layout.{number_in}
use Rattle.export.specs.Enums.{pair_of, operands_of}
use Rattle.export.proofs.call.operands_in.Goals as goal
use Rattle.export.proofs.call.operands_in.Goals.{then-a-ne-NUMBER_BYTES-via-then-a-ne-NUMBER_BYTES, then-a-ne-NUMBER_BYTES-via-else-a-ne-NUMBER_BYTES+then-b-ne-NUMBER_BYTES, then-a-ne-NUMBER_BYTES-via-else-a-ne-NUMBER_BYTES+else-b-ne-NUMBER_BYTES+then-room-ne-NUMBER_BYTES}

-- past the tests of the lengths
sixteen : (a b : List ℕ) (n : ℕ) → length a ≡ 16 → length b ≡ 16 → n ≡ 16 → operands_of a b n ≡ pair_of (number_in a) (number_in b)
unfolding operands_of is_sixteen
sixteen a b n ha hb hn = rw (eq-eqb (length a) 16 ha, eq-eqb (length b) 16 hb, eq-eqb n 16 hn)

same_error : (x y : NoOperands) → ◌≡◌ {A = Result Number NoOperands} (Err x) (Err y) → x ≡ y
same_error x y h = cc

pub returns-then-a-ne-NUMBER_BYTES : goal.returns-then-a-ne-NUMBER_BYTES
unfolding operands_of is_sixteen
returns-then-a-ne-NUMBER_BYTES c =
    elim c.then-a-ne-NUMBER_BYTES.branch [
      | then-a-ne-NUMBER_BYTES-via-then-a-ne-NUMBER_BYTES w ↦ rw (ne_eqb _ 16 w.if-a-ne-NUMBER_BYTES.true)
      | then-a-ne-NUMBER_BYTES-via-else-a-ne-NUMBER_BYTES+then-b-ne-NUMBER_BYTES w ↦ rw (eq-eqb _ 16 w.if-a-ne-NUMBER_BYTES.false, ne_eqb _ 16 w.if-b-ne-NUMBER_BYTES.true)
      | then-a-ne-NUMBER_BYTES-via-else-a-ne-NUMBER_BYTES+else-b-ne-NUMBER_BYTES+then-room-ne-NUMBER_BYTES w ↦ rw (eq-eqb _ 16 w.if-a-ne-NUMBER_BYTES.false, eq-eqb _ 16 w.if-b-ne-NUMBER_BYTES.false, ne_eqb _ 16 w.if-room-ne-NUMBER_BYTES.true)
    ]

pub returns-in_err-x : goal.returns-in_err-x
unfolding pair_of
returns-in_err-x c =
    let e = err_from_is_err_and c.from_residual.result c.from_residual.ensures.1 in
    rw (sixteen _ _ _ c.if-a-ne-NUMBER_BYTES.false c.if-b-ne-NUMBER_BYTES.false c.if-room-ne-NUMBER_BYTES.false, sym c.read.ensures ∙ c.in_err-x.ensures.ok_part, e.1, e.2)
    (ap Err (same_error _ _ (rw c.in_err-x.ensures.ok_part at c.in_err-x.ensures.value)))

pub returns-in_err-y : goal.returns-in_err-y
unfolding pair_of
returns-in_err-y c =
    let e = err_from_is_err_and c.from_residual-in_err-y.result c.from_residual-in_err-y.ensures.1 in
    rw (sixteen _ _ _ c.if-a-ne-NUMBER_BYTES.false c.if-b-ne-NUMBER_BYTES.false c.if-room-ne-NUMBER_BYTES.false, sym c.read.ensures ∙ c.in_ok-x.ensures.ok_part, sym c.read-2.ensures ∙ c.in_err-y.ensures.ok_part, e.1, e.2)
    (ap Err (same_error _ _ (rw c.in_err-y.ensures.ok_part at c.in_err-y.ensures.value)))

pub returns : goal.returns
unfolding pair_of
returns c =
    rw (
      sixteen _ _ _ c.if-a-ne-NUMBER_BYTES.false c.if-b-ne-NUMBER_BYTES.false c.if-room-ne-NUMBER_BYTES.false,
      sym c.read.ensures ∙ c.in_ok-x.ensures.ok_part,
      sym c.read-2.ensures ∙ c.in_ok-y.ensures.ok_part,
    )
