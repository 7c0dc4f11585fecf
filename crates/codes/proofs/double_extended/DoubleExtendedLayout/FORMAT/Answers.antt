-- The constants of `codes::double_extended::DoubleExtended` are those of the definition.
use mathlib.Core.Path.{refl}
use Rattle.codes.specs.Codes.{double_extended}
use Rattle.codes.proofs.double_extended.DoubleExtendedLayout.FORMAT.Goals as goal

pub returns : goal.returns
unfolding double_extended
returns c = refl
