-- The terms of private contracts, on words. No sentence of document 01 speaks of them, and no promise of a public function cites this file.
use Rattle.std.specs.Prelude.{◌≡◌, ℕ, ◌+◌, ◌-◌, ◌*◌, ◌/◌, ◌^◌, ◌<◌, ◌≤◌}
use Rattle.numbers.specs.Answer.{Outcome, given, refused}

-- a significand
pub record IsSignificand (D : ℕ) : Type 0 where
  pub top : 2 ^ 63 ≤ D
  pub word : D < 2 ^ 64

-- A Newton step: the reciprocal x / 2^31 times 2 − 2^−31 − t, rounded down, where t is x / 2^31 times the divisor dr / 2^32, rounded up to a multiple
-- of 2^−32. In units of 2^−32, 2 is 2^33, and 3 is taken off for 2^−31 and for rounding up.
unfoldable pub refined_word : ℕ → ℕ → ℕ
refined_word dr x = x * (2 ^ 33 - 3 - x * dr / 2 ^ 31) / 2 ^ 32

-- every product of a Newton step is a word
pub record HasProducts (dr x : ℕ) : Type 0 where
  pub product : x * dr < 2 ^ 64
  pub complement : x * dr / 2 ^ 31 + 3 ≤ 2 ^ 33
  pub refined : x * (2 ^ 33 - 3 - x * dr / 2 ^ 31) < 2 ^ 64

-- x / 2^95 is at most 1 / D, and less than 16 / 2^32 of that below it
pub record IsReciprocalWord (D x : ℕ) : Type 0 where
  pub word : x < 2 ^ 32
  pub under : 2 * x * D ≤ 2 ^ 96
  pub close : 2 ^ 96 < 2 * x * D + 2 ^ 68

-- the whole number q and the remainder R of N / D
pub record IsQuotient (N D q R : ℕ) : Type 0 where
  pub parts : N ≡ q * D + R
  pub below : R < D

-- a number, and no refusal
unfoldable pub IsGiven : Outcome → Type 0
IsGiven (given x) = Unit {0}
IsGiven (refused k) = ⊥
