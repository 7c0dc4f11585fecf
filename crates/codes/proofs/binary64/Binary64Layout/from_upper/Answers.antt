-- `codes::binary64::Binary64::from_upper` meets its contract: 12 bits above 52 have room in a word, and no more are kept.
use mathlib.Core.Path.{◌≡◌}
use native.Mathlib.Omega.{arith}
use Prim.Native.Nat.{◌<◌}
use Rattle.codes.specs.Codes.{binary64, exponent_bits}
use Rattle.codes.proofs.binary64.Binary64Layout.from_upper.Goals as goal

pub returns : goal.returns
unfolding binary64 exponent_bits
returns c room =
    let below : c.args.upper < 4096 = room in
    let same : c.from.result ≡ c.args.upper = omega (arith, c.from.ensures, below) in
    rw (c.from_bits.ensures, same)
