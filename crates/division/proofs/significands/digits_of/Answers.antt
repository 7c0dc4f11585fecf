-- `division::significands::digits_of` meets its contract: the remainder after a digit is the next one's (Laws.DigitWords).
use Rattle.std.proofs.Common.{arith}
use Rattle.division.proofs.Laws.DigitWords.{digit_bits, joined}
use Rattle.division.proofs.significands.digits_of.Goals as goal

pub overflow_add-result-3 : goal.overflow_add-result-3
overflow_add-result-3 c =
    record {
      fits =
          omega (
            arith,
            digit_bits c.next_digit-second.ensures c.next_digit-first.ensures.below,
            digit_bits c.next_digit-third.ensures c.next_digit-second.ensures.below,
          );
    }

pub returns : goal.returns
returns c =
    rw (← c.new-divisor.ensures)
    (joined _ _ _ _ _ _ _ _ _ _ (rw (← c.new-divisor.ensures) at c.first_bit-bit.ensures.0) c.next_digit-first.ensures c.next_digit-second.ensures c.next_digit-third.ensures)
