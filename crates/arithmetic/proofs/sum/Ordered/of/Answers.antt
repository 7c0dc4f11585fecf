-- `arithmetic::sum::Ordered::of` meets its contract: exponents are compared, then significands, and a sum does not depend on the order.
use Rattle.std.proofs.Common.{sym, ◌∙◌, arith}
use Rattle.numbers.proofs.Laws.Fractions.{sum_swap}
use Rattle.arithmetic.specs.Private.{operand_value}
use Rattle.arithmetic.proofs.Laws.Aligned.{above_before, above_else}
use Rattle.arithmetic.proofs.sum.Ordered.of.Goals as goal
use Rattle.arithmetic.proofs.sum.Ordered.of.Goals.{then-lt, else-lt}

pub invariant_of-result : goal.invariant_of-result
invariant_of-result c = elim c.if-lt.branch [
  | then-lt w ↦ let above = above_before c.args.a c.args.b (omega arith) (sym c.lt.ensures ∙ w.if-lt.true) in rw w.result-is (record { lower = above.0; larger = above.1 })
  | else-lt w ↦ let above = above_else c.args.a c.args.b (omega arith) (sym c.lt.ensures ∙ w.if-lt.false) in rw w.result-is (record { lower = above.0; larger = above.1 })
]

pub returns : goal.returns
returns c = elim c.if-lt.branch [ then-lt w ↦ rw w.result-is (sum_swap (operand_value c.args.b) (operand_value c.args.a)) | else-lt w ↦ rw w.result-is ]
