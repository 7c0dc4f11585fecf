-- `text::text::Text::with_sixteen_digits` meets its contract: sixteen digits are asked for, and no more have room.
use native.Mathlib.Omega.{arith}
use Rattle.text.proofs.Laws.Digits.{sixteen}
use Rattle.text.proofs.text.Text.with_sixteen_digits.Goals as goal

pub returns : goal.returns
returns c =
    rw (c.with_bytes.ensures, c.hex-count.ensures.digits, sixteen c.hex-count.result _ (omega arith) c.hex-count.ensures.len)
