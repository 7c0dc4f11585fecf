-- `arithmetic::magnitude::difference` meets its contract: the low words borrow 1 from the high ones where a's is below b's.
use Rattle.std.proofs.Common.{◌≡◌, ℕ, ◌+◌, ◌*◌, ◌%◌, ◌^◌, ◌<◌, ◌≤◌, Bool, true, false, arith}
use Rattle.std.specs.Bool.{FalseIff}
use mir.Val.{bool_byte}
use Rattle.numbers.specs.Cell.{wide}
use Rattle.numbers.proofs.Laws.Wide.{wide_sum, wide_le, wide_lt}
use Rattle.arithmetic.proofs.magnitude.difference.Goals as goal

borrowed : (a b low : ℕ) (borrow : Bool) → a < 2 ^ 64 → b < 2 ^ 64 → low < 2 ^ 64 → (low + b) % 2 ^ 64 ≡ a → FalseIff borrow (b ≤ a) → low + b ≡ a + bool_byte borrow * 2 ^ 64
borrowed a b low true ha hb hl e f = omega (arith, f)
borrowed a b low false ha hb hl e f = omega (arith, f)

-- the high words leave room for the borrow
room : (ah al bh bl : ℕ) (borrow : Bool) → wide bh bl ≤ wide ah al → al < 2 ^ 64 → FalseIff borrow (bl ≤ al) → bh + bool_byte borrow ≤ ah
room ah al bh bl true h a f = omega (arith, wide_lt ah al bh bl h (omega (arith, f)))
room ah al bh bl false h a f = omega (arith, wide_le ah al bh bl h a)

pub overflow_sub-result : goal.overflow_sub-result
overflow_sub-result c = wide_le _ _ _ _ c.requires (omega arith)

pub overflow_sub-result-2 : goal.overflow_sub-result-2
overflow_sub-result-2 c = rw c.from.ensures (omega (arith, room _ _ _ _ _ c.requires (omega arith) c.overflowing_sub-low.ensures.overflow))

pub returns : goal.returns
returns c =
    let low = borrowed _ _ _ _ (omega arith) (omega arith) (omega arith) c.overflowing_sub-low.ensures.value c.overflowing_sub-low.ensures.overflow in
    let high = room _ _ _ _ _ c.requires (omega arith) c.overflowing_sub-low.ensures.overflow in
    rw c.from.ensures (wide_sum (bool_byte c.overflowing_sub-low.result.1) _ _ _ _ _ _ (omega (arith, high)) low)
