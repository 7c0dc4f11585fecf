-- `arithmetic::operand::Operand::of` meets its contract, by the number's case.
use Rattle.std.proofs.Common.{◌+◌, ◌<◌, sym, ap, ◌∙◌, to_z-of_z, w32, SFits, rules, arith, lit≤}
use Rattle.numbers.specs.Number.{is_working_exponent}
use Rattle.numbers.proofs.Laws.Working.{working_parts}
use Rattle.arithmetic.specs.Private.{operand_value}
use Rattle.arithmetic.proofs.Laws.Operands.{zero_operand, finite_operand}
use Rattle.arithmetic.proofs.operand.Operand.of.Goals as goal
use Rattle.arithmetic.proofs.operand.Operand.of.Goals.{in-Zero, in-Finite}

pub biased-requires : goal.biased-requires
biased-requires c =
    let fits : SFits w32 c.in-Finite.exponent = search rules in
    ap is_working_exponent (to_z-of_z fits) ∙ (working_parts _ _ _ _ c.requires c.in-Finite.is).exponent

pub invariant_of-result : goal.invariant_of-result
invariant_of-result c = elim c.match-x.branch [
  | in-Zero w ↦ rw w.result-is (record { biased = lit≤ tt; normal = λ (z : 0 < 0 + 0). absurd (omega arith) })
  | in-Finite w ↦ rw w.result-is (record { biased = w.biased.ensures.1; normal = λ z. (working_parts _ _ _ _ c.requires w.in-Finite.is).top })
]

pub returns : goal.returns
unfolding operand_value
returns c = elim c.match-x.branch [
  | in-Zero w ↦ rw w.result-is (zero_operand _ w.in-Zero.is)
  | in-Finite w ↦
      let fits : SFits w32 w.in-Finite.exponent = search rules in
      rw w.result-is (finite_operand _ _ _ _ _ w.in-Finite.is c.requires (sym (to_z-of_z fits) ∙ w.biased.ensures.0) w.biased.ensures.1).0
]
