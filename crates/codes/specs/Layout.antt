-- The terms that the laws of codes and private contracts are stated in; no promise of a public function cites them.
use Rattle.std.specs.Prelude.{◌≡◌, Bool, true, List, ℕ, ◌+◌, ◌*◌, ◌^◌, ◌≤◌, ◌<◌, ℤ, pos, neg_ℤ, length, Ok, Err}
use Rattle.std.proofs.Math.Option.{Option, none, some}
use Rattle.std.specs.Float.Ieee.{up, down, minus}
use Rattle.std.specs.declared.result.Result.{Result}
use Rattle.little_endian.specs.Bytes.{IsBytes}
use Rattle.numbers.specs.Answer.{given}
use Rattle.numbers.specs.Fraction.{Fraction, Equal, signed, value}
use Rattle.numbers.specs.Number.{is_between}
use Rattle.numbers.specs.declared.number.Number.{Number}
use Rattle.numbers.specs.declared.number.Number.TheVariants.{Zero, Finite}
use Rattle.codes.specs.Codes.{exponent_bits, reading_of, Lent, unwritten, packed, writing_of}
use Rattle.codes.specs.declared.code.Code.{Code}
use Rattle.codes.specs.declared.code.Format.{Format}
use Rattle.refusals.specs.Row.{row_number}
use Rattle.refusals.specs.declared.Refusal.{Refusal}
use Rattle.refusals.specs.declared.Refusal.TheVariants.{NoEqualCode}

-- What the constants of a format have to do with each other. A code stores all bits of a significand or all but the top one; the bias is one
-- less than half the number of fields; the ends are the exponents of field 1 and of the last field below all ones.
pub record IsFormat (f : Format) : Type 0 where
  pub some_bits : 1 ≤ f.precision
  pub word_bits : f.precision ≤ 64
  pub stored_most : f.stored ≤ f.precision
  pub stored_least : f.precision ≤ f.stored + 1
  pub layout : f.stored + exponent_bits f + 1 ≡ 8 * f.length
  pub fields : 2 ^ exponent_bits f ≡ 2 * f.bias + 2
  pub some_bias : 1 ≤ f.bias
  pub small_bias : f.bias ≤ 32767
  pub lowest_is : f.lowest ≡ minus 1 f.bias
  pub highest_is : f.highest ≡ pos f.bias

-- a code's parts have room in the format
pub record IsCode (f : Format) (c : Code) : Type 0 where
  pub field_fits : c.field < 2 ^ exponent_bits f
  pub significand_fits : c.significand < 2 ^ f.precision

-- some code of the format stands for a number of the same value
unfoldable pub HasEqualCode : Format → Number → Type 0
HasEqualCode f x = (bytes : List ℕ) × IsBytes bytes × (y : Number) × (reading_of f bytes ≡ given y) × Equal (value y) (value x)

-- m × 2^e with the sign s: the value of `fin s m e` in the toolchain's account of IEEE 754 (Float.Ieee of std)
unfoldable pub ieee_fraction : Bool → ℕ → ℤ → Fraction
ieee_fraction s m e = record { numerator = signed s (m * up e); denominator = down e }

-- zero, or an exponent from −65,472, 63 above the lowest working one, to the highest: a shift of the significand then leaves a working one
unfoldable pub is_normalizable : Number → Bool
is_normalizable Zero = true
is_normalizable (Finite negative e S) = is_between (neg_ℤ (pos 65472)) (pos 65536) e

-- the code that equals a number, or the refusal that there is none
unfoldable pub packing_of : Option Code → Result Code Refusal
packing_of none = Err NoEqualCode
packing_of (some c) = Ok c

-- what a call leaves that writes the code of a packing, or answers its refusal
unfoldable pub laid : Format → Result Code Refusal → List ℕ → Lent
laid f (Ok c) old = packed f old (some c)
laid f (Err refusal) old = unwritten (row_number refusal) old

-- r is what is to be written for x into n bytes, and a code has room there
pub record IsPacking (f : Format) (x : Number) (n : ℕ) (r : Result Code Refusal) : Type 0 where
  pub leaves : (old : List ℕ) → length old ≡ n → laid f r old ≡ writing_of f x old
  pub long : (c : Code) → r ≡ Ok c → n ≡ f.length
  pub room : (c : Code) → r ≡ Ok c → IsCode f c
