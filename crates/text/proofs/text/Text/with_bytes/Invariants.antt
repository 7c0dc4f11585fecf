-- `text::text::Text::with_bytes` meets its contract. The loop's invariant: the text has the bytes passed more, those that have room.
use Rattle.std.proofs.Common.{◌++◌, ◌≡◌, take}
use Rattle.text.specs.Text.{text_of, cut}
use Rattle.text.proofs.text.Text.with_bytes.Given as goal

abbrev pub invariant-loop-byte : goal.invariant-loop-byte
invariant-loop-byte l = text_of l.text ≡ cut (text_of l.fn.self ++ take l.byte-index l.fn.more)
