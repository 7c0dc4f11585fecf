-- `text::text::Text::with_decimal` meets its contract: the fewest digits are those of the definition.
use native.Mathlib.Omega.{arith}
use Rattle.text.proofs.Laws.Digits.{decimal}
use Rattle.text.proofs.text.Text.with_decimal.Goals as goal

pub returns : goal.returns
returns c =
    rw (c.with_bytes.ensures, c.decimal-count.ensures.digits, decimal c.decimal-count.result _ (omega arith) c.decimal-count.ensures.len)
