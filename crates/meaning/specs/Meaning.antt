-- Document 01, "Rounding to n bits, n from 1 to 64": what each mode means, by the numbers of n bits around x and not by how a whole number is made.
use Rattle.std.specs.Prelude.{Bool, ℕ, ◌+◌, ◌*◌, ◌^◌, ◌<◌}
use Rattle.numbers.specs.Fraction.{Fraction, IsScaled, Equal, AtMost, Below, is_negative, HasSign, difference, magnitude, times}
use Rattle.numbers.specs.Grid.{unit_of}
use Rattle.numbers.specs.declared.task.Mode.{Mode}
use Rattle.numbers.specs.declared.task.Mode.TheVariants.{Trunc, Away, Near, Sticky, Up, Down}

-- v is a number of n bits, that is of at most n: ± N × 2^i / 2^o, N below 2^n
pub record HasBits (n : ℕ) (v : Fraction) : Type 0 where
  pub negative : Bool
  pub whole : ℕ
  pub i : ℕ
  pub o : ℕ
  pub short : whole < 2 ^ n
  pub amount : IsScaled v negative whole i o

-- how far y is from x
unfoldable pub distance : Fraction → Fraction → Fraction
distance y x = magnitude (difference y x)

-- "0 trunc: drop the fraction.": the number of n bits on the side of x that has the greatest magnitude not above that of x
pub record IsTrunc (n : ℕ) (x y : Fraction) : Type 0 where
  pub bits : HasBits n y
  pub side : HasSign (is_negative x.numerator) y
  pub within : AtMost (magnitude y) (magnitude x)
  pub greatest : (v : Fraction) → HasBits n v → AtMost (magnitude v) (magnitude x) → AtMost (magnitude v) (magnitude y)

-- "1 away: go up if there is a fraction.": the one that has the least magnitude not below that of x
pub record IsAway (n : ℕ) (x y : Fraction) : Type 0 where
  pub bits : HasBits n y
  pub side : HasSign (is_negative x.numerator) y
  pub beyond : AtMost (magnitude x) (magnitude y)
  pub least : (v : Fraction) → HasBits n v → AtMost (magnitude x) (magnitude v) → AtMost (magnitude y) (magnitude v)

-- "4 up: toward plus infinity.": the least number of n bits that is not below x
pub record IsUp (n : ℕ) (x y : Fraction) : Type 0 where
  pub bits : HasBits n y
  pub above : AtMost x y
  pub least : (v : Fraction) → HasBits n v → AtMost x v → AtMost y v

-- "5 down: toward minus infinity.": the greatest one that is not above x
pub record IsDown (n : ℕ) (x y : Fraction) : Type 0 where
  pub bits : HasBits n y
  pub below : AtMost y x
  pub greatest : (v : Fraction) → HasBits n v → AtMost v x → AtMost v y

-- y is k times the unit of the last of n bits of x, by their magnitudes. The unit is the power of two of which x has 2^(n − 1) at least and less than 2^n
-- (laws `unit_small` and `unit_most`); it means nothing for x = 0, where no tie occurs and x is kept.
unfoldable pub IsUnitsOf : ℕ → Fraction → Fraction → ℕ → Type 0
IsUnitsOf n x y k = Equal (magnitude y) (times k (unit_of n x))

-- "2 near: nearest whole number, an exact half to the even one.": no number of n bits is nearer, and where another one is as near, y is an even number of units
pub record IsNear (n : ℕ) (x y : Fraction) : Type 0 where
  pub bits : HasBits n y
  pub nearest : (v : Fraction) → HasBits n v → AtMost (distance y x) (distance v x)
  pub even : (v : Fraction) → HasBits n v → Equal (distance v x) (distance y x) → (Equal v y → ⊥) → (k : ℕ) × IsUnitsOf n x y (2 * k)

-- "3 sticky: drop the fraction; if there was one, make the whole number odd.": a number of n bits is kept; any other x lies
-- between two neighbouring multiples of the unit, and y is the odd one
pub record IsSticky (n : ℕ) (x y : Fraction) : Type 0 where
  pub bits : HasBits n y
  pub kept : HasBits n x → Equal y x
  pub odd : (HasBits n x → ⊥) → Below (distance y x) (unit_of n x) × ((k : ℕ) × IsUnitsOf n x y (2 * k + 1))

-- what document 01 asks of the rounding y of x
unfoldable pub Meaning : Mode → ℕ → Fraction → Fraction → Type 0
Meaning Trunc n x y = IsTrunc n x y
Meaning Away n x y = IsAway n x y
Meaning Near n x y = IsNear n x y
Meaning Sticky n x y = IsSticky n x y
Meaning Up n x y = IsUp n x y
Meaning Down n x y = IsDown n x y
