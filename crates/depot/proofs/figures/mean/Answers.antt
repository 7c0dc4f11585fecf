-- `depot::figures::mean` meets its contract: a fit sum divided by a count is never refused.
use native.Mathlib.Omega.{arith}
use Rattle.depot.specs.Figures.{mean_of}
use Rattle.depot.specs.Room.{mode_of}
use Rattle.depot.proofs.Laws.Room.{IsGivenAs, given_ok, given_same, mean_given}
use Rattle.depot.proofs.figures.mean.Goals as goal
use Rattle.depot.proofs.figures.mean.Goals.{After-divide}

-- what the division gives
given : (c : After-divide) → IsGivenAs c.divide.result (mean_of (mode_of c.args.side) c.args.total c.args.moved)
given c = mean_given _ _ _ _ _ c.code.ensures c.requires.0 c.requires.1 (omega arith) c.number_of.ensures _ c.divide.ensures.told

pub unwrap-mean-requires : goal.unwrap-mean-requires
unwrap-mean-requires c = given_ok _ _ (given (goal.at-unwrap-mean-requires c).After-divide)

pub returns : goal.returns
returns c = given_same _ _ _ (given (goal.at-returns c).After-divide) c.unwrap-mean.ensures
