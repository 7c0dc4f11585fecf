-- `codes::binary64::Binary64::from_bytes` meets its contract: eight bytes fill a word.
use mathlib.Core.Path.{◌∙◌}
use Prim.Native.Nat.{ℕ}
use native.Mathlib.Nat.{le_of_eq}
use Rattle.little_endian.specs.Bytes.{IsBytes}
use Rattle.little_endian.proofs.Laws.Bytes.{read_whole}
use Rattle.codes.specs.Codes.{binary64}
use Rattle.codes.proofs.binary64.Binary64Layout.from_bytes.Goals as goal

pub returns : goal.returns
unfolding IsBytes binary64
returns c long =
    c.from_bits.ensures ∙ c.read.ensures ∙ read_whole _ (λ (i : ℕ). (c.shared_slice_known-1.given i).fits) (le_of_eq long)
