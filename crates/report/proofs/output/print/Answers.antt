-- `report::output::print` is safe: what is written of a text lies in its array.
use mathlib.Core.Path.{◌≡◌, sym}
use Prim.Native.Nat.{ℕ, ◌≤◌}
use native.Mathlib.Omega.{arith}
use lib.ListN.{length, length-take}
use lib.Seq.{length-take-le}
use Rattle.text.specs.Text.{text_of}
use Rattle.text.specs.declared.text.Text.{Text}
use Rattle.report.proofs.output.print.Goals as goal

-- as many bytes as are written
within : (t : Text) (count : ℕ) → count ≡ length (text_of t) → count ≤ length t.bytes
unfolding text_of
within t count e = rw (e, length-take t.length t.bytes) (omega arith)

pub slice_bounds-bytes-end : goal.slice_bounds-bytes-end
slice_bounds-bytes-end c = within c.args.text c.count.result c.count.ensures

pub slice_bounds-write_all-end : goal.slice_bounds-write_all-end
slice_bounds-write_all-end c =
    sym (length-take-le c.count.result c.args.text.bytes (within c.args.text c.count.result c.count.ensures))
