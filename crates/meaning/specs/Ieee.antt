-- Numbers as values of Float.Ieee of std, the toolchain's account of IEEE 754. A law says that near to 53 bits is its rounding to binary64 (proofs/Ieee).
use Rattle.std.specs.Prelude.{Bool, false, ℕ, ◌+◌, Float, pos, negsuc, neg_ℤ}
use Rattle.std.specs.Float.{fin}
use Rattle.std.specs.Float.Ieee.{odd}
use Rattle.numbers.specs.Number.{is_between, is_fit}
use Rattle.numbers.specs.declared.number.Number.{Number}
use Rattle.numbers.specs.declared.number.Number.TheVariants.{Zero, Finite}

-- the number ± S × 2^(e − 63) as Float.Ieee of std writes it, with an odd whole number: `odd d s S k l` is ± S × 2^k / 2^l for an S of at most d bits. Zero is +0.
unfoldable pub float_of : Number → Float
float_of Zero = fin false 0 (pos 0)
float_of (Finite negative (pos e) S) = odd 64 negative S e 63
float_of (Finite negative (negsuc e) S) = odd 64 negative S 0 (64 + e)

-- the exponents of binary64's normal numbers go from −1022, here without its sign, to 1023
abbrev pub lowest_normal : ℕ
lowest_normal = 1022

abbrev pub highest_normal : ℕ
highest_normal = 1023

-- zero, or a number with such an exponent
unfoldable pub is_normal_or_zero : Number → Bool
is_normal_or_zero x = is_fit (is_between (neg_ℤ (pos lowest_normal)) (pos highest_normal)) x
