-- `codes::double_extended::DoubleExtended::write_bytes` meets its contract. The significand fills the first eight bytes, and `upper` the two that follow.
use mathlib.Core.Path.{◌≡◌, refl}
use native.Mathlib.Omega.{arith}
use lib.Dec.{lit≤}
use Rattle.little_endian.proofs.Laws.Bytes.{write_parts}
use Rattle.codes.specs.Codes.{double_extended}
use Rattle.codes.proofs.double_extended.DoubleExtendedLayout.write_bytes.Goals as goal

pub returns : goal.returns
unfolding double_extended
returns c long =
    let eight : c.min-middle.result ≡ 8 = omega (arith, c.min-middle.ensures, long) in
    rw (← c.from.ensures, eight)
    (write_parts 8 10 (lit≤ tt) c.args.bytes.now long _ _ _ _ _ (omega arith) refl (rw eight at c.write.ensures) (rw eight at c.write-2.ensures))
