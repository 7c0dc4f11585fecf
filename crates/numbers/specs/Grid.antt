-- The terms that the laws of rounding are stated in: the unit of the last place, the next number, cells of a grid, fractions that a grid does not tell apart,
-- and fractions that are rounded alike. Cell, the crate `meaning` and private contracts cite them too; the laws stand in proofs/Laws.
use Rattle.std.specs.Prelude.{◌≡◌, ◌↔◌, Bool, true, false, ℕ, suc, ◌+◌, ◌-◌, ◌*◌, ◌/◌, ◌^◌, ◌<◌, pos, nat_abs}
use Rattle.std.specs.Float.Ieee.{up, down}
use Rattle.numbers.specs.Fraction.{Fraction, AtMost, scaled}
use Rattle.numbers.specs.Rounding.{exponent_of, placed, round}
use Rattle.numbers.specs.Answer.{claimed}
use Rattle.numbers.specs.declared.answer.Accuracy.{Accuracy}
use Rattle.numbers.specs.declared.answer.Accuracy.TheVariants as accuracy
use Rattle.numbers.specs.declared.number.Number.{Number}
use Rattle.numbers.specs.declared.number.Number.TheVariants.{Zero, Finite}
use Rattle.numbers.specs.declared.task.Mode.{Mode}

-- the unit of the last of n bits of x, for an x that is not zero: 2^(e − n + 1), e being the exponent of x
unfoldable pub unit_of : ℕ → Fraction → Fraction
unit_of n x = let e = exponent_of (nat_abs x.numerator) x.denominator in record { numerator = pos (up e); denominator = 2 ^ (n - 1) * down e }

-- the number next to one of n bits, away from zero: one unit of the last of its n bits more. Zero has no such unit, and stays.
unfoldable pub next_of : ℕ → Number → Number
next_of n Zero = Zero
next_of n (Finite negative e S) = placed negative e n (suc (S / 2 ^ (64 - n)))

-- the rounding up of a value that is not negative, by its rounding down and where this lies: the same where it is exact, else the next number. Down lies
-- nowhere above.
unfoldable pub up_by : ℕ → Number → Accuracy → Number
up_by n low accuracy.Exact = low
up_by n low accuracy.Below = next_of n low
up_by n low accuracy.Above = next_of n low

-- x lies in the cell F of the grid u, which goes from F × u to (F + 1) × u: at its lower end, or, with a rest, strictly inside
abbrev pub InCell : Bool → ℕ → ℕ → ℕ → Type 0
InCell false x F u = x ≡ F * u
InCell true x F u = (F * u < x) × (x < F * u + u)

-- a flag as a number
abbrev pub bit_of : Bool → ℕ
bit_of false = 0
bit_of true = 1

-- the magnitude of x lies in the cell F of the grid 2^i / 2^o
abbrev pub HasCell : Fraction → ℕ → ℕ → ℕ → Bool → Type 0
HasCell x i o F rest = InCell rest (nat_abs x.numerator * 2 ^ o) F (x.denominator * 2 ^ i)

-- no multiple of the grid 2^i / 2^o tells x and y apart
unfoldable pub Alike : ℕ → ℕ → Fraction → Fraction → Type 0
Alike i o x y =
    (s : Bool) (N : ℕ)
    → (AtMost (scaled s N i o) x ↔ AtMost (scaled s N i o) y) × (AtMost x (scaled s N i o) ↔ AtMost y (scaled s N i o))

-- x and y are rounded alike to n bits: to one number in every mode, and an exact claim of either has one answer
pub record RoundedAlike (n : ℕ) (x y : Fraction) : Type 0 where
  pub rounds : (mode : Mode) → round mode n x ≡ round mode n y
  pub claims : claimed n x ≡ claimed n y
