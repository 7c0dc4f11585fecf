-- `little_endian::read` meets its contract. The loop goes down: w is the number in the bytes behind those that are left, as far as a word has room for it.
use mathlib.Core.Path.{◌≡◌}
use mathlib.Core.List.{List, ◌++◌}
use Prim.Native.Nat.{ℕ, ◌%◌, ◌^◌}
use Rattle.std.specs.Iterator.Adapters.{rev_source}
use Rattle.std.specs.Slice.Iter.{iter_rest}
use Rattle.little_endian.specs.Bytes.{little_endian}
use Rattle.little_endian.proofs.read.Given as goal

-- the bytes behind those that are left hold w
pub record Above (bytes rest : List ℕ) (w : ℕ) : Type 0 where
  pub behind : List ℕ
  pub parts : rest ++ behind ≡ bytes
  pub holds : w ≡ little_endian behind % 2 ^ 64

abbrev pub invariant-loop-byte : goal.invariant-loop-byte
invariant-loop-byte l = Above l.bytes (iter_rest (rev_source l.byte-iterator)) l.w
