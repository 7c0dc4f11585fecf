-- `codes::double_extended::DoubleExtended::upper` meets its contract: the significand is a word.
use mathlib.Core.Path.{sym, ◌∙◌}
use lib.Pow.{high}
use native.Mathlib.Omega.{arith}
use Rattle.codes.specs.Codes.{double_extended}
use Rattle.codes.proofs.double_extended.DoubleExtendedLayout.upper.Goals as goal

pub returns : goal.returns
unfolding double_extended
returns c = c.from.ensures ∙ sym (high c.args.self.upper 64 (omega arith))
