-- Document 01, "Numbers": exact fractions, and the value of a number.
use Rattle.std.specs.Prelude.{◌≡◌, Bool, true, false, ◌&&◌, ℕ, suc, ◌*◌, ◌^◌, ◌<◌, ℤ, pos, negsuc, neg_ℤ, nat_abs, ◌+ℤ◌, ◌-ℤ◌, ◌*ℤ◌, ◌≤ℤ◌, ◌<ℤ◌}
use Rattle.std.specs.Float.Ieee.{up, down}
use Rattle.std.specs.Int.Signed.{le_z}
use Rattle.numbers.specs.declared.number.Number.{Number}
use Rattle.numbers.specs.declared.number.Number.TheVariants.{Zero, Finite}

-- "An exact fraction is a whole number over a positive one"
pub record Fraction : Type 0 where
  pub numerator : ℤ
  pub denominator : ℕ

-- the record takes a denominator of 0 too: the laws ask for a positive one
abbrev pub IsFraction : Fraction → Type 0
IsFraction x = 0 < x.denominator

-- "two are compared by cross products.": x = y, x ≤ y and x < y
unfoldable pub Equal : Fraction → Fraction → Type 0
Equal x y = x.numerator *ℤ pos y.denominator ≡ y.numerator *ℤ pos x.denominator

unfoldable pub AtMost : Fraction → Fraction → Type 0
AtMost x y = (x.numerator *ℤ pos y.denominator) ≤ℤ (y.numerator *ℤ pos x.denominator)

unfoldable pub Below : Fraction → Fraction → Type 0
Below x y = (x.numerator *ℤ pos y.denominator) <ℤ (y.numerator *ℤ pos x.denominator)

-- x = y as a test
unfoldable pub is_equal : Fraction → Fraction → Bool
is_equal x y =
    let a = x.numerator *ℤ pos y.denominator in
    let b = y.numerator *ℤ pos x.denominator in
    le_z a b && le_z b a

-- x ≤ y as a test
unfoldable pub is_at_most : Fraction → Fraction → Bool
is_at_most x y = le_z (x.numerator *ℤ pos y.denominator) (y.numerator *ℤ pos x.denominator)

-- a whole number by its sign and its magnitude: the sign of 0 is not kept
unfoldable pub signed : Bool → ℕ → ℤ
signed false a = pos a
signed true a = neg_ℤ (pos a)

unfoldable pub is_negative : ℤ → Bool
is_negative (pos a) = false
is_negative (negsuc a) = true

-- "The value is sign × S × 2^(e − 63)." Zero is 0 / 1. 2^e is up e / down e (Float.Ieee of std): of the two, one is a power of 2 and the other is 1.
unfoldable pub value : Number → Fraction
value Zero = record { numerator = pos 0; denominator = 1 }
value (Finite negative e S) = record { numerator = signed negative (S * up e); denominator = 2 ^ 63 * down e }

-- the exact sum, difference, product and quotient
unfoldable pub sum : Fraction → Fraction → Fraction
sum x y = record {
  numerator = x.numerator *ℤ pos y.denominator +ℤ y.numerator *ℤ pos x.denominator;
  denominator = x.denominator * y.denominator;
}

unfoldable pub difference : Fraction → Fraction → Fraction
difference x y = record {
  numerator = x.numerator *ℤ pos y.denominator -ℤ y.numerator *ℤ pos x.denominator;
  denominator = x.denominator * y.denominator;
}

unfoldable pub product : Fraction → Fraction → Fraction
product x y = record { numerator = x.numerator *ℤ y.numerator; denominator = x.denominator * y.denominator }

-- p / d divided by the whole number q, whose sign goes to the numerator
unfoldable pub divided_by : ℤ → ℕ → ℤ → Fraction
divided_by p d (pos q) = record { numerator = p; denominator = d * q }
divided_by p d (negsuc q) = record { numerator = neg_ℤ p; denominator = d * suc q }

-- a fraction where y is not zero
unfoldable pub quotient : Fraction → Fraction → Fraction
quotient x y = divided_by (x.numerator *ℤ pos y.denominator) x.denominator y.numerator

-- |x|, and k times x
unfoldable pub magnitude : Fraction → Fraction
magnitude x = record { numerator = pos (nat_abs x.numerator); denominator = x.denominator }

unfoldable pub times : ℕ → Fraction → Fraction
times k x = record { numerator = x.numerator *ℤ pos k; denominator = x.denominator }

-- ---- terms of cells, of meanings and of laws, of which document 01 does not speak

-- x has this sign, or is zero
abbrev pub HasSign : Bool → Fraction → Type 0
HasSign negative x = x.numerator ≡ signed negative (nat_abs x.numerator)

-- the part of a whole number above zero and the part below it, of which one is 0
abbrev pub above : ℤ → ℕ
above (pos a) = a
above (negsuc a) = 0

abbrev pub below : ℤ → ℕ
below (pos a) = 0
below (negsuc a) = suc a

-- ± N × 2^i / 2^o: a whole number of grids 2^i / 2^o
abbrev pub scaled : Bool → ℕ → ℕ → ℕ → Fraction
scaled s N i o = record { numerator = signed s (N * 2 ^ i); denominator = 2 ^ o }

-- x is ± N × 2^i / 2^o
pub record IsScaled (x : Fraction) (s : Bool) (N i o : ℕ) : Type 0 where
  pub positive : IsFraction x
  pub amount : Equal x (scaled s N i o)
