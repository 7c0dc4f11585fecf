-- `arithmetic::magnitude::sum` meets its contract: the low words carry 1 into the high ones where their sum overflows.
use Rattle.std.proofs.Common.{◌≡◌, ℕ, ◌+◌, ◌*◌, ◌%◌, ◌^◌, ◌<◌, Bool, true, false, refl, sym, arith}
use Rattle.std.specs.Bool.{FalseIff}
use mir.Facts.{Fits-of_lt}
use mir.Val.{bool_byte}
use Rattle.numbers.specs.Cell.{wide}
use Rattle.numbers.proofs.Laws.Wide.{wide_sum, wide_high}
use Rattle.arithmetic.proofs.magnitude.sum.Goals as goal

module _ (ah al bh bl low : ℕ) (carry : Bool) (a : al < 2 ^ 64) (b : bl < 2 ^ 64) (sum : low ≡ (al + bl) % 2 ^ 64) (fits : FalseIff carry (al + bl < 2 ^ 64)) where
  carried : (c : Bool) → FalseIff c (al + bl < 2 ^ 64) → al + bl ≡ low + bool_byte c * 2 ^ 64
  carried true f = omega (arith, f)
  carried false f = omega (arith, f)

  whole : wide ah al + wide bh bl ≡ wide (ah + bh + bool_byte carry) low
  whole = wide_sum (bool_byte carry) ah al bh bl (ah + bh + bool_byte carry) low refl (carried carry fits)

  room : wide ah al + wide bh bl < 2 ^ 128 → ah + bh + bool_byte carry < 2 ^ 64
  room h = wide_high (ah + bh + bool_byte carry) low (rw whole at h)

pub overflow_add-result : goal.overflow_add-result
overflow_add-result c = Fits-of_lt (omega (arith, room _ _ _ _ _ _ (omega arith) (omega arith) c.overflowing_add-low.ensures.value c.overflowing_add-low.ensures.overflow c.requires))

pub overflow_add-result-2 : goal.overflow_add-result-2
overflow_add-result-2 c =
    rw c.from.ensures (Fits-of_lt (room _ _ _ _ _ _ (omega arith) (omega arith) c.overflowing_add-low.ensures.value c.overflowing_add-low.ensures.overflow c.requires))

pub returns : goal.returns
returns c = rw c.from.ensures (sym (whole _ _ _ _ _ _ (omega arith) (omega arith) c.overflowing_add-low.ensures.value c.overflowing_add-low.ensures.overflow))
