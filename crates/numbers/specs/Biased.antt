-- Exponents as natural numbers: the terms of private contracts and of laws. No promise of a public function cites this file.
use Rattle.std.specs.Prelude.{ℕ}

-- what is added to an exponent of 32 bits to make it a natural number: 2^31
unfoldable pub raise : ℕ
raise = 2147483648

-- what is added to a working exponent to make it a natural number: the lowest one is −65,535
abbrev pub bias : ℕ
bias = 65535

-- the highest working exponent, 65,536, with the bias
abbrev pub highest_biased : ℕ
highest_biased = 131071

-- a number of biased exponent b is ± S × 2^b / 2^origin, origin being 65,535 + 63; kept as a name, so that 2^origin is not worked out
unfoldable pub origin : ℕ
origin = 65598
