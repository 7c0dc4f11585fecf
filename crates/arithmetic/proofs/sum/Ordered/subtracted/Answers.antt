-- `arithmetic::sum::Ordered::subtracted` meets its contract: Laws.Aligned takes the callees' equations to the answer.
use Rattle.std.proofs.Common.{◌≤◌, arith}
use Rattle.numbers.specs.Rounding.{precision_of}
use Rattle.numbers.specs.declared.task.Task.{Task}
use Rattle.arithmetic.specs.Private.{exact_value, IsExact}
use Rattle.arithmetic.proofs.Laws.Aligned.{IsAligned, subtracted_fits, borrowed_fits, subtracted_answer}
use Rattle.arithmetic.proofs.sum.Ordered.subtracted.Goals as goal
use Rattle.arithmetic.proofs.sum.Ordered.subtracted.Goals.{Start}

pair : (c : Start) → IsAligned c.args.self.large c.args.self.small
pair c = record { lower = c.args.self.lower; larger = c.args.self.larger; large_word = omega arith; small_word = omega arith }

pub difference-less-requires : goal.difference-less-requires
difference-less-requires c =
    subtracted_fits _ _ (pair (goal.at-difference-less-requires c).Start) _ _ _ c.shift_right-taken.result.rest c.raised-top.ensures c.raised.ensures c.shift_right-taken.ensures.0 c.shift_right-taken.ensures.1

pub difference-magnitude-requires : goal.difference-magnitude-requires
difference-magnitude-requires c =
    borrowed_fits _ _ (pair (goal.at-difference-magnitude-requires c).Start) _ _ _ c.shift_right-taken.result.rest c.raised-top.ensures c.raised.ensures c.shift_right-taken.ensures.0
    c.shift_right-taken.ensures.1 _ _ c.difference-less.ensures c.borrow.ensures

pub returns : goal.returns
unfolding IsExact exact_value
returns c = λ (task : Task) (n0 : 1 ≤ precision_of task) (n1 : precision_of task ≤ 64).
    subtracted_answer _ _ (pair (goal.at-returns c).Start) _ _ _ c.shift_right-taken.result.rest c.raised-top.ensures c.raised.ensures c.shift_right-taken.ensures.0
    c.shift_right-taken.ensures.1 c.requires _ _ _ _ c.difference-less.ensures c.borrow.ensures c.difference-magnitude.ensures task n0 n1
