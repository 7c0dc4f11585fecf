-- `codes::double_extended::DoubleExtended::stored` meets its contract: the significand is a word.
use mathlib.Core.Path.{sym}
use lib.Pow.{low}
use native.Mathlib.Omega.{arith}
use Rattle.codes.specs.Codes.{double_extended}
use Rattle.codes.proofs.double_extended.DoubleExtendedLayout.stored.Goals as goal

pub returns : goal.returns
unfolding double_extended
returns c = sym (low c.args.self.upper 64 (omega arith))
