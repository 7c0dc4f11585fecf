-- Document 01, "Codes": the two formats, and what reading and writing a code answer. One definition of each serves both formats.
-- A format's constants are the struct `Format` of src/code.rt, and a code taken apart is the struct `Code`. `minus a b` (Float.Ieee of std) is a − b as a
-- whole number.
use Rattle.std.specs.Prelude.{Bool, false, not, ◌&&◌, cond, List, ℕ, ◌+◌, ◌-◌, ◌*◌, ◌/◌, ◌%◌, ◌^◌, leb, ltb, eqb, ℤ, pos, neg_ℤ, nat_abs, ◌+ℤ◌, ◌-ℤ◌, length, ⊤}
use Rattle.std.specs.Bool.{beq}
use Rattle.std.proofs.Math.Option.{Option, none, some}
use Rattle.std.specs.Float.Ieee.{minus}
use Rattle.std.specs.Int.Signed.{le_z}
use Rattle.std.specs.declared.result.Result.{Result}
use Rattle.little_endian.specs.Bytes.{little_endian, bytes_of}
use Rattle.numbers.specs.Answer.{Outcome, given, refused}
use Rattle.numbers.specs.Fraction.{value, is_equal}
use Rattle.numbers.specs.Number.{is_working}
use Rattle.numbers.specs.Rounding.{round}
use Rattle.numbers.specs.declared.number.Number.{Number}
use Rattle.numbers.specs.declared.number.Number.TheVariants.{Zero, Finite}
use Rattle.numbers.specs.declared.task.Mode.TheVariants.{Trunc}
use Rattle.codes.specs.declared.code.Code.{Code}
use Rattle.codes.specs.declared.code.Format.{Format}
use Rattle.codes.specs.declared.double_extended.DoubleExtended.{DoubleExtended}
use Rattle.refusals.specs.Row.{refusal_row}
use Rattle.refusals.specs.declared.Refusal.{Refusal}

-- "Each format carries its own precision, bias and exponent ends." `stored` says how many bits of the significand a code has; `lowest` and `highest`
-- are the exponents of field 1 and of the last field below all ones.
-- "Double-extended: 8 bytes of S with its explicit top bit, then 15 exponent bits (bias 16,383) under the sign bit."
unfoldable pub double_extended : Format
double_extended = record { length = 10; precision = 64; stored = 64; bias = 16383; lowest = neg_ℤ (pos 16382); highest = pos 16383 }

-- "Binary64: 8 bytes, 52 fraction bits, bias 1,023."
unfoldable pub binary64 : Format
binary64 = record { length = 8; precision = 53; stored = 52; bias = 1023; lowest = neg_ℤ (pos 1022); highest = pos 1023 }

-- the bits between the significand and the sign bit, and a field of all ones
unfoldable pub exponent_bits : Format → ℕ
exponent_bits f = 8 * f.length - f.stored - 1

unfoldable pub all_ones : Format → ℕ
all_ones f = 2 ^ exponent_bits f - 1

-- the leading one of a normal number, where the code does not store it
unfoldable pub leading_one : Format → ℕ → ℕ
leading_one f field = cond (ltb f.stored f.precision && ltb 0 field) (2 ^ f.stored) 0

-- the bits of a double-extended code as a whole number
abbrev pub bits_of : DoubleExtended → ℕ
bits_of code = code.upper * 2 ^ 64 + code.significand

-- The bits of a code taken apart, and put together. The significand has its leading one, stored or not; the sign bit is set where it is negative.
unfoldable pub split : Format → ℕ → Code
split f w =
    let upper = w / 2 ^ f.stored in
    let field = upper % 2 ^ exponent_bits f in
    record { negative = ltb 0 (upper / 2 ^ exponent_bits f); field = field; significand = w % 2 ^ f.stored + leading_one f field }

abbrev pub sign_bit : Bool → ℕ
sign_bit negative = cond negative 1 0

unfoldable pub join : Format → Code → ℕ
join f c = (sign_bit c.negative * 2 ^ exponent_bits f + c.field) * 2 ^ f.stored + c.significand % 2 ^ f.stored

-- "Exponent field 0 holds zero and the numbers below normal": it counts as field 1, without the leading one.
abbrev pub counted : ℕ → ℕ
counted field = cond (eqb field 0) 1 field

-- The value of a code, as a number whose top bit may be clear: sign × significand × 2^(e − precision + 1), where e is the field less the bias.
unfoldable pub decoded : Format → Code → Number
decoded f c = Finite c.negative (minus (counted c.field) f.bias) (c.significand * 2 ^ (64 - f.precision))

-- The number with that value and its top bit set, or zero. It has no more than 64 bits, so that nothing is dropped: `read_value` shows it.
abbrev pub normalized : Number → Number
normalized x = round Trunc 64 (value x)

-- Row 11: "negative zero; double-extended with top bit set at field 0 or clear at another field". A binary64 code stores no top bit; `split` adds it
-- at every field but 0, so that only negative zero is left to refuse. A canonical code is the one that its number is written as.
unfoldable pub is_canonical : Format → Code → Bool
is_canonical f c = beq (leb (2 ^ (f.precision - 1)) c.significand) (ltb 0 c.field) && not (c.negative && eqb c.significand 0)

-- Row 10, "exponent field all ones", then row 11; else x. "a field of all ones is no number."
unfoldable pub judged_code : Format → Code → Number → Outcome
judged_code f c x =
    cond (eqb c.field (all_ones f)) (refused 10)
    (cond (not (is_canonical f c)) (refused 11)
    (given x))

-- What the code with the bits w stands for. "A code that isn't a number ends the reading with its refusal."
unfoldable pub number_of : Format → ℕ → Outcome
number_of f w = let c = split f w in judged_code f c (normalized (decoded f c))

-- What reading answers: "Little-endian.". Row 9: "length not 10, 8 or 512 as the entry needs".
unfoldable pub reading_of : Format → List ℕ → Outcome
reading_of f bytes =
    cond (not (eqb (length bytes) f.length)) (refused 9)
    (number_of f (little_endian bytes))

-- The field of the exponent e, and how far e lies below the lowest exponent; there the field is 0, and the significand moves right by as many bits.
unfoldable pub field_of : Format → ℤ → ℕ
field_of f e = cond (le_z f.lowest e) (nat_abs (e +ℤ pos f.bias)) 0

unfoldable pub below_normal : Format → ℤ → ℕ
below_normal f e = cond (le_z f.lowest e) 0 (nat_abs (f.lowest -ℤ e))

-- the code that has as many of the upper bits of S as the format has room for
unfoldable pub encoded : Format → Bool → ℤ → ℕ → Code
encoded f negative e S = record { negative = negative; field = field_of f e; significand = S / 2 ^ (below_normal f e + (64 - f.precision)) }

-- the code of zero
abbrev pub zero_code : Code
zero_code = record { negative = false; field = 0; significand = 0 }

-- The code that equals a working number, if there is one: `written_equal` shows that none is missed.
unfoldable pub equal_code : Format → Number → Option Code
equal_code f Zero = some zero_code
equal_code f (Finite negative e S) =
    let c = encoded f negative e S in
    cond (le_z e f.highest && is_equal (value (decoded f c)) (value (Finite negative e S))) (some c) none

-- what a call that writes leaves: the row that refuses, if one does, and the lent bytes
pub record Lent : Type 0 where
  pub refusal : Option ℕ
  pub bytes : List ℕ

-- "After a refusal, lent bytes and state are the old ones."
unfoldable pub unwritten : ℕ → List ℕ → Lent
unwritten row old = record { refusal = some row; bytes = old }

-- "Packing writes only a code that equals the number." Row 12: "a working number without an equal code"
unfoldable pub packed : Format → List ℕ → Option Code → Lent
packed f old none = unwritten 12 old
packed f old (some c) = record { refusal = none; bytes = bytes_of f.length (join f c) }

-- What writing x leaves of the bytes `old`. Row 3: "only or first operand unfit". Then rows 9 and 12.
unfoldable pub writing_of : Format → Number → List ℕ → Lent
writing_of f x old =
    cond (not (is_working x)) (unwritten 3 old)
    (cond (not (eqb (length old) f.length)) (unwritten 9 old)
    (packed f old (equal_code f x)))

-- the answer with the bytes at exit
unfoldable pub writing : Result ⊤ Refusal → List ℕ → Lent
writing answer bytes = record { refusal = refusal_row answer; bytes = bytes }
