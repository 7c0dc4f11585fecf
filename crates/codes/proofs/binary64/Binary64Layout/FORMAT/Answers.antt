-- The constants of `codes::binary64::Binary64` are those of the definition.
use mathlib.Core.Path.{refl}
use Rattle.codes.specs.Codes.{binary64}
use Rattle.codes.proofs.binary64.Binary64Layout.FORMAT.Goals as goal

pub returns : goal.returns
unfolding binary64
returns c = refl
