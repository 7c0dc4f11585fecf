-- `codes::binary64::Binary64::stored` meets its contract, by a division by 2^52.
use mathlib.Core.Path.{refl}
use Rattle.codes.specs.Codes.{binary64}
use Rattle.codes.proofs.binary64.Binary64Layout.stored.Goals as goal

pub returns : goal.returns
unfolding binary64
returns c = refl
