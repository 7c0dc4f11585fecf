-- `division::seed::entry_for` meets its contract: the rule, computed over the whole table, is the table that the code has, and so each entry is the rule's.
use Rattle.std.proofs.Common.{arith}
use Rattle.numbers.proofs.Laws.Table.{at_entry}
use Rattle.division.specs.Seed.{nearest, entry_of, index_of}
use Rattle.division.proofs.seed.entry_for.Goals as goal

pub returns : goal.returns
unfolding nearest entry_of index_of
returns c = at_entry entry_of 128 _ (omega arith)
