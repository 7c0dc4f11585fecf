-- Document 01, "Numbers": which numbers are fit.
-- "A number is zero, or a sign, an exponent and a significand." It is the enum `Number` of src/number.rt: Zero, or Finite with its sign (true for
-- negative), its exponent and its significand. "Zero has no sign."
use Rattle.std.specs.Prelude.{Bool, true, not, ◌&&◌, ℕ, ◌^◌, leb, ltb, ℤ, pos, neg_ℤ}
use Rattle.std.specs.Int.Signed.{le_z}
use Rattle.numbers.specs.declared.number.Number.{Number}
use Rattle.numbers.specs.declared.number.Number.TheVariants.{Zero, Finite}

-- "The significand is a 64-bit whole number S with its top bit set."
unfoldable pub is_significand : ℕ → Bool
is_significand S = leb (2 ^ 63) S && ltb S (2 ^ 64)

-- is e from `lowest` to `highest`?
unfoldable pub is_between : ℤ → ℤ → ℤ → Bool
is_between lowest highest e = le_z lowest e && le_z e highest

-- "Working: e from −65,535 to 65,536."
unfoldable pub is_working_exponent : ℤ → Bool
is_working_exponent e = is_between (neg_ℤ (pos 65535)) (pos 65536) e

-- "Admissible: e from −16,446 to 16,384."
unfoldable pub is_admissible_exponent : ℤ → Bool
is_admissible_exponent e = is_between (neg_ℤ (pos 16446)) (pos 16384) e

-- "A nonzero number with the top bit of S clear, or with e outside the named range, is unfit. Zero is always fit."
unfoldable pub is_fit : (ℤ → Bool) → Number → Bool
is_fit in_range Zero = true
is_fit in_range (Finite negative e S) = in_range e && is_significand S

abbrev pub is_working : Number → Bool
is_working x = is_fit is_working_exponent x

abbrev pub is_admissible : Number → Bool
is_admissible x = is_fit is_admissible_exponent x

-- −x
unfoldable pub negated : Number → Number
negated Zero = Zero
negated (Finite negative e S) = Finite (not negative) e S
