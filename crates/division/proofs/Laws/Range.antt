-- Half a word, and the operands of a division by their biased exponents.
use Rattle.std.proofs.Common.{◌≡◌, ℕ, ◌*◌, ◌^◌, ◌<◌, ◌≤◌, refl}
use lib.Ieee.{minus}
use Rattle.numbers.specs.Biased.{bias}
use Rattle.numbers.specs.declared.number.Number.{Number}
use Rattle.numbers.specs.declared.number.Number.TheVariants.{Zero, Finite}

-- half a word, kept as a name so that its powers stay products
unfoldable pub half : ℕ
half = 2 ^ 32

pub half_is : half ≡ 2 ^ 32
unfolding half
half_is = refl

pub half_square : half * half ≡ 2 ^ 64
unfolding half
half_square = refl

pub half_cube : half * half * half ≡ 2 ^ 96
unfolding half
half_cube = refl

-- the biased exponents of admissible numbers: 65,535 − 16,446 and 65,535 + 16,384
abbrev pub lowest_admissible : ℕ
lowest_admissible = 49089

abbrev pub highest_admissible : ℕ
highest_admissible = 81919

-- a biased exponent from c to the highest admissible one, and a significand
pub record InRange (c b S : ℕ) : Type 0 where
  pub lowest : c ≤ b
  pub highest : b ≤ highest_admissible
  pub top : 2 ^ 63 ≤ S
  pub word : S < 2 ^ 64

-- zero, or a number in that range: an operand, or a remainder
abbrev pub IsBounded : ℕ → Number → Type 0
IsBounded c Zero = Unit {0}
IsBounded c (Finite s e S) = (a : ℕ) × (e ≡ minus a bias) × InRange c a S
