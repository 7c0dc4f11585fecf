-- `codes::double_extended::DoubleExtended::from_bytes` meets its contract. The first eight bytes are the significand, and the two that follow hold a number below 2^16.
use mathlib.Core.Path.{◌≡◌, ap, ◌∙◌}
use native.Mathlib.Nat.{mod-eq_of_lt}
use native.Mathlib.Omega.{arith}
use Prim.Native.Nat.{ℕ, ◌-◌, ◌%◌, ◌^◌}
use lib.Dec.{lit≤}
use lib.ListN.{length, take, drop}
use Rattle.little_endian.specs.Bytes.{little_endian, IsBytes}
use Rattle.little_endian.proofs.Laws.Bytes.{read_parts}
use Rattle.codes.specs.Codes.{double_extended}
use Rattle.codes.proofs.double_extended.DoubleExtendedLayout.from_bytes.Goals as goal

pub returns : goal.returns
unfolding IsBytes double_extended
returns c long =
    let bytes = c.args.bytes.now in
    let eight : c.min-middle.result ≡ 8 = omega (arith, c.min-middle.ensures, long) in
    let low = c.read-significand.ensures ∙ ap (λ (n : ℕ). little_endian (take n bytes) % 2 ^ 64) eight in
    let high = c.read-upper.ensures ∙ ap (λ (n : ℕ). little_endian (take (length bytes - n) (drop n bytes)) % 2 ^ 64) eight in
    let parts = read_parts 8 10 (lit≤ tt) _ long _ _ (λ (i : ℕ). (c.shared_slice_known-1.given i).fits) (lit≤ tt) (lit≤ tt) low high in
    rw (c.from_bits.ensures.0, c.from_bits.ensures.1, mod-eq_of_lt parts.1) parts.0
