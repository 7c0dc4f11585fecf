-- A number in sixteen bytes: eight of the significand, four of the exponent, four of the kind, the lowest byte first in each. So byte 12 is the
-- kind, and the three behind it are zero.
use Rattle.std.specs.Prelude.{Bool, true, ◌&&◌, cond, List, ◌++◌, ℕ, suc, ◌-◌, ◌^◌, ltb, eqb, ℤ, pos, negsuc, neg_ℤ, take, drop, Option, None, Some}
use Rattle.std.specs.Float.Ieee.{minus}
use Rattle.little_endian.specs.Bytes.{little_endian, bytes_of}
use Rattle.numbers.specs.Number.{is_between}
use Rattle.numbers.specs.declared.number.Number.{Number}
use Rattle.numbers.specs.declared.number.Number.TheVariants.{Zero, Finite}

-- The 32-bit two's complement word of an exponent: a negative one, `negsuc n` for −(n + 1), is counted down from 2^32.
unfoldable pub word_of : ℤ → ℕ
word_of (pos n) = n
word_of (negsuc n) = 2 ^ 32 - suc n

-- the exponent in a word: from 2^31 on it is negative
unfoldable pub exponent_in : ℕ → ℤ
exponent_in w = cond (ltb w (2 ^ 31)) (pos w) (minus w (2 ^ 32))

-- the kind of a number that is not zero: 1 for positive, 2 for negative
abbrev pub kind_of : Bool → ℕ
kind_of negative = cond negative 2 1

-- the sixteen bytes of a number; those of zero are zero
unfoldable pub layout_of : Number → List ℕ
layout_of Zero = bytes_of 16 0
layout_of (Finite negative e S) = bytes_of 8 S ++ (bytes_of 4 (word_of e) ++ bytes_of 4 (kind_of negative))

-- The number of a kind, the word of an exponent and a significand. Kind 0 is zero, and nothing else is set; a kind above 2 is no number.
unfoldable pub number_of : ℕ → ℕ → ℕ → Option Number
number_of kind w S =
    cond (ltb 2 kind) None
    (cond (ltb 0 kind) (Some (Finite (eqb kind 2) (exponent_in w) S))
    (cond (eqb S 0 && eqb w 0) (Some Zero) None))

-- the number in sixteen bytes, if they hold one
unfoldable pub number_in : List ℕ → Option Number
number_in bytes = number_of (little_endian (drop 12 bytes)) (little_endian (take 4 (drop 8 bytes))) (little_endian (take 8 bytes))

-- Has a number a layout? Its exponent is from −2^31 to 2^31 − 1 and its significand below 2^64, as in every value of the enum `Number`.
unfoldable pub has_layout : Number → Bool
has_layout Zero = true
has_layout (Finite negative e S) = is_between (neg_ℤ (pos 0x80000000)) (pos 0x7fffffff) e && ltb S (2 ^ 64)
