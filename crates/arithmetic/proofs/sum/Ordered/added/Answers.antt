-- `arithmetic::sum::Ordered::added` meets its contract: Laws.Aligned takes the callees' equations to the answer.
use Rattle.std.proofs.Common.{◌≤◌, arith}
use Rattle.numbers.specs.Rounding.{precision_of}
use Rattle.numbers.specs.declared.task.Task.{Task}
use Rattle.arithmetic.specs.Private.{exact_value, IsExact}
use Rattle.arithmetic.proofs.Laws.Aligned.{IsAligned, added_fits, added_answer}
use Rattle.arithmetic.proofs.sum.Ordered.added.Goals as goal
use Rattle.arithmetic.proofs.sum.Ordered.added.Goals.{Start}

pair : (c : Start) → IsAligned c.args.self.large c.args.self.small
pair c = record { lower = c.args.self.lower; larger = c.args.self.larger; large_word = omega arith; small_word = omega arith }

pub sum-magnitude-requires : goal.sum-magnitude-requires
sum-magnitude-requires c =
    added_fits _ _ (pair (goal.at-sum-magnitude-requires c).Start) _ _ _ c.shift_right-cell.result.rest c.raised-top.ensures c.raised.ensures c.shift_right-cell.ensures.0 c.shift_right-cell.ensures.1

pub returns : goal.returns
unfolding IsExact exact_value
returns c = λ (task : Task) (n0 : 1 ≤ precision_of task) (n1 : precision_of task ≤ 64).
    added_answer _ _ (pair (goal.at-returns c).Start) _ _ _ c.shift_right-cell.result.rest c.raised-top.ensures c.raised.ensures c.shift_right-cell.ensures.0
    c.shift_right-cell.ensures.1 c.requires _ _ c.sum-magnitude.ensures task n0 n1
