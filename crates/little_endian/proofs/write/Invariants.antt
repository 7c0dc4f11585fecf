-- `little_endian::write` meets its contract. The loop goes up: the first bytes are those of w, and `left` is what they do not hold.
use mathlib.Core.Path.{◌≡◌}
use mathlib.Core.List.{List}
use Prim.Native.Nat.{ℕ, ◌/◌, ◌^◌}
use lib.ListN.{take}
use Rattle.little_endian.specs.Bytes.{bytes_of}
use Rattle.little_endian.proofs.write.Given as goal

-- i bytes of w are written over the old ones
pub record Written (w : ℕ) (bytes : List ℕ) (left i : ℕ) : Type 0 where
  pub holds : take i bytes ≡ bytes_of i w
  pub rest : left ≡ w / 256 ^ i

abbrev pub invariant-loop-byte : goal.invariant-loop-byte
invariant-loop-byte l = Written l.w l.bytes l.left l.byte-index
