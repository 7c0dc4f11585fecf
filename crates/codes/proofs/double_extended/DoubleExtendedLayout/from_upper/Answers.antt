-- `codes::double_extended::DoubleExtended::from_upper` meets its contract: the sign and the field have 16 bits, and the significand is a word.
use native.Mathlib.Nat.{mod-eq_of_lt}
use native.Mathlib.Omega.{arith}
use Prim.Native.Nat.{◌^◌, ◌<◌}
use Rattle.codes.specs.Codes.{double_extended, exponent_bits}
use Rattle.codes.proofs.double_extended.DoubleExtendedLayout.from_upper.Goals as goal

pub returns : goal.returns
unfolding double_extended exponent_bits
returns c room =
    let word : c.args.significand < 2 ^ 64 = omega arith in
    rw (c.from_bits.ensures.0, c.from_bits.ensures.1, c.from.ensures, mod-eq_of_lt room, mod-eq_of_lt word)
