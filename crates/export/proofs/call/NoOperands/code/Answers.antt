-- `export::call::NoOperands::code` meets its contract: the answer of each case is the number written beside it.
use Rattle.std.proofs.Common.{rules}
use Rattle.export.specs.Enums.{code_of}
use Rattle.export.proofs.call.NoOperands.code.Goals as goal

pub returns : goal.returns
unfolding code_of
returns c = search rules

pub returns-2 : goal.returns-2
unfolding code_of
returns-2 c = search rules
