-- `steps::operands::Divisor::line` meets its contract: an admissible number is a working one.
use Rattle.std.proofs.Common.{refl}
use Rattle.division.proofs.Laws.Admissible.{admissible_working}
use Rattle.steps.specs.Run.{line_outcome}
use Rattle.steps.proofs.operands.Divisor.line.Goals as goal

pub invariant_of-result : goal.invariant_of-result
invariant_of-result c = record { fit = admissible_working c.args.self.number c.args.self.fit }

pub returns : goal.returns
unfolding line_outcome
returns c = refl
