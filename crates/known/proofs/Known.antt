-- The known values of document 01, computed: P1 to P12, and with them others that the program runs as well, and where some results lie against the exact ones.
-- Each line has what the definitions give and what is expected.
use mathlib.Core.Path.{◌≡◌, refl}
use mathlib.Core.Bool.{false}
use mathlib.Core.List.{List, [], ◌∷◌, map}
use mathlib.Core.Option.{Option, none, some}
use Prim.Native.Nat.{ℕ}
use lib.Ieee.{size, minus}
use lib.IntN.{ℤ}
use Rattle.little_endian.specs.Bytes.{little_endian, bytes_of}
use Rattle.numbers.specs.Number.{is_significand, is_between, is_fit, is_working_exponent, is_admissible_exponent, negated}
use Rattle.numbers.specs.Fraction.{signed, value, is_equal, is_at_most, sum, product, divided_by, quotient, is_negative}
use Rattle.numbers.specs.Rounding.{settled, exponent_of, scaled_numerator, scaled_denominator, goes_up, whole_of, placed, rounded_at, round, has_at_most_bits, task_of, is_precision}
use Rattle.numbers.specs.Accuracy.{Marked, marked_as, accuracy_of, marked}
use Rattle.numbers.specs.Answer.{Outcome, given, refused, checked, claimed, rounded, unless_unknown, unless_unfit, judged}
use Rattle.numbers.specs.declared.answer.Accuracy.TheVariants as accuracy
use Rattle.numbers.specs.declared.number.Number.{Number}
use Rattle.numbers.specs.declared.number.Number.TheVariants.{Zero, Finite}
use Rattle.arithmetic.specs.Operations.{operation_of, rounding_of, coded_of, sum_of, product_of}
use Rattle.codes.specs.Codes.{double_extended, binary64, exponent_bits, all_ones, leading_one, split, join, decoded, is_canonical, judged_code, number_of, reading_of, field_of, below_normal, encoded, equal_code, Lent, unwritten, packed, writing_of}
use Rattle.division.specs.Quotient.{is_zero, unless_indivisible, quotient_of}
use Rattle.division.specs.Seed.{nearest, entry_of}

-- what an operation, a division or a reading answers; a division's answer with its mark; what a writing leaves, its refusal and its bytes as one whole
-- number; or an entry of the seed table
pub data Result : Type 0 where
  answered : Outcome → Result
  measured : Marked → Result
  wrote : Option ℕ → ℕ → Result
  entry : ℕ → Result

-- ---- how a line is written

-- the mode codes
abbrev trunc : ℕ
trunc = 0

abbrev near : ℕ
near = 2

abbrev sticky : ℕ
sticky = 3

abbrev up : ℕ
up = 4

abbrev exact : ℕ
exact = 6

-- S / 2^63 × 2^e, and a power of two; an exponent is written `minus i o` (Float.Ieee of std), which is i − o
abbrev finite : ℤ → ℕ → Number
finite e S = Finite false e S

abbrev power : ℤ → Number
power e = finite e 0x8000000000000000

-- whole and broken numbers
abbrev one : Number
one = power (minus 0 0)

abbrev three : Number
three = finite (minus 1 0) 0xC000000000000000

abbrev four : Number
four = power (minus 2 0)

abbrev five : Number
five = finite (minus 2 0) 0xA000000000000000

abbrev three_eighths : Number
three_eighths = finite (minus 0 2) 0xC000000000000000

abbrev eleven_eighths : Number
eleven_eighths = finite (minus 0 0) 0xB000000000000000

-- what is expected: a number, a refusal
abbrev is : Number → Result
is x = answered (given x)

abbrev is_refused : ℕ → Result
is_refused row = answered (refused row)

-- p / d, and where it lies; x rounded by itself; what was given rounded once more
abbrev divided : Number → Number → ℕ → ℕ → Result
divided p d code n = answered (quotient_of p d code n)

abbrev lying : Number → Number → ℕ → ℕ → Result
lying p d code n = measured (marked (quotient (value p) (value d)) (quotient_of p d code n))

abbrev rounding : Number → ℕ → ℕ → Outcome
rounding x code n = rounding_of x (task_of code n)

abbrev again : Outcome → ℕ → ℕ → Outcome
again (given x) code n = rounding x code n
again (refused row) code n = refused row

-- the number in the code w of so many bytes, and x written where the bits of `old` were
abbrev read_from : (List ℕ → Outcome) → ℕ → ℕ → Result
read_from reading length w = answered (reading (bytes_of length w))

abbrev written_over : (Number → List ℕ → Lent) → ℕ → ℕ → Number → Result
written_over writing length old x = let l = writing x (bytes_of length old) in wrote l.refusal (little_endian l.bytes)

-- ---- the list

unfoldable pub values : List (Result × Result)
values =
    -- P1 to P3: 1/3 near 64, trunc, sticky
    (divided one three near 64, is (finite (minus 0 2) 0xAAAAAAAAAAAAAAAB))
    ∷ (divided one three trunc 64, is (finite (minus 0 2) 0xAAAAAAAAAAAAAAAA))
    ∷ (divided one three sticky 64, is (finite (minus 0 2) 0xAAAAAAAAAAAAAAAB))
    -- P4, P5: 1/3 up 1 is 1/2, −1/3 up 1 is −1/4
    ∷ (divided one three up 1, is (power (minus 0 1)))
    ∷ (divided (negated one) three up 1, is (negated (power (minus 0 2))))
    -- P6 to P8: 3/2 near 1 is 2, 5/4 near 2 is 1, 7/4 near 2 is 2
    ∷ (answered (rounding (finite (minus 0 0) 0xC000000000000000) near 1), is (power (minus 1 0)))
    ∷ (answered (rounding (finite (minus 0 0) 0xA000000000000000) near 2), is one)
    ∷ (answered (rounding (finite (minus 0 0) 0xE000000000000000) near 2), is (power (minus 1 0)))
    -- P9: T(0), T(6), T(127)
    ∷ (entry (entry_of 0), entry 255)
    ∷ (entry (entry_of 6), entry 244)
    ∷ (entry (entry_of 127), entry 128)
    -- P10: 0 / −5
    ∷ (divided Zero (negated five) near 64, is Zero)
    -- P11: 0.375 in binary64, written and read
    ∷ (written_over (writing_of binary64) 8 0x5555555555555555 three_eighths, wrote none 0x3FD8000000000000)
    ∷ (read_from (reading_of binary64) 8 0x3FD8000000000000, is three_eighths)
    -- P12: double-extended 1, written and read
    ∷ (written_over (writing_of double_extended) 10 0x55555555555555555555 one, wrote none 0x3FFF8000000000000000)
    ∷ (read_from (reading_of double_extended) 10 0x3FFF8000000000000000, is one)
    -- e = −16,446 divides, −16,447 gives 3
    ∷ (divided (power (minus 0 16446)) one near 64, is (power (minus 0 16446)))
    ∷ (divided (power (minus 0 16447)) one near 64, is_refused 3)
    -- 2^16384 / 2^−16446 = 2^32830
    ∷ (divided (power (minus 16384 0)) (power (minus 0 16446)) near 64, is (power (minus 32830 0)))
    -- 2^−16445 packs double-extended, 2^−16446 gives 12 and leaves the bytes
    ∷ (written_over (writing_of double_extended) 10 0x55555555555555555555 (power (minus 0 16445)), wrote none 1)
    ∷ (written_over (writing_of double_extended) 10 0x55555555555555555555 (power (minus 0 16446)), wrote (some 12) 0x55555555555555555555)
    -- 2^65536 × 2 gives 7, 1 + 2^−64 claimed exact 64 gives 8
    ∷ (answered (product_of (power (minus 65536 0)) (power (minus 1 0)) near 64), is_refused 7)
    ∷ (answered (sum_of one (power (minus 0 64)) exact 64), is_refused 8)
    -- rounding twice: 11/8 near 2 is 3/2, then near 1 gives 2; once gives 1
    ∷ (answered (rounding eleven_eighths near 2), is (finite (minus 0 0) 0xC000000000000000))
    ∷ (answered (again (rounding eleven_eighths near 2) near 1), is (power (minus 1 0)))
    ∷ (answered (rounding eleven_eighths near 1), is one)
    -- 1/3 near 64 lies above, trunc below, −1/3 trunc above; 3/2 near 1 above; 0 / −5 and 1/4 are exact
    ∷ (lying one three near 64, measured (marked_as (finite (minus 0 2) 0xAAAAAAAAAAAAAAAB) accuracy.Above))
    ∷ (lying one three trunc 64, measured (marked_as (finite (minus 0 2) 0xAAAAAAAAAAAAAAAA) accuracy.Below))
    ∷ (lying (negated one) three trunc 64, measured (marked_as (negated (finite (minus 0 2) 0xAAAAAAAAAAAAAAAA)) accuracy.Above))
    ∷ (lying three (power (minus 1 0)) near 1, measured (marked_as (power (minus 1 0)) accuracy.Above))
    ∷ (lying Zero (negated five) near 64, measured (marked_as Zero accuracy.Exact))
    ∷ (lying one four near 64, measured (marked_as (power (minus 0 2)) accuracy.Exact))
    ∷ []

pub known : map (λ (v : Result × Result). v.0) values ≡ map (λ (v : Result × Result). v.1) values
unfolding values negated reading_of number_of judged_code writing_of packed unwritten equal_code is_equal is_at_most accuracy_of marked encoded field_of below_normal decoded is_canonical split join leading_one bytes_of little_endian exponent_bits all_ones double_extended binary64 sum_of product_of coded_of operation_of rounding_of unless_unknown unless_unfit is_precision is_fit is_between is_significand is_working_exponent task_of rounded checked claimed judged round rounded_at has_at_most_bits is_negative placed whole_of goes_up scaled_numerator scaled_denominator exponent_of settled size value signed sum product quotient_of unless_indivisible is_zero is_admissible_exponent quotient divided_by entry_of nearest
known = refl
