-- `numbers::number::is_fit` meets its contract: each way out has the tests of `is_fit` behind it.
use mathlib.Core.Path.{◌≡◌, sym, ap₂, ◌∙◌}
use mathlib.Core.Bool.{Bool, true, false, and-true, and-false}
use Prim.Native.Nat.{ℕ, ◌^◌, ◌<◌}
use native.Mathlib.Omega.{arith}
use lib.Dec.{leb}
use lib.IntN.{ℤ}
use lib.Signed.{le_z}
use mir.Facts.{to_z-of_z}
use mir.Syntax.{w32}
use mir.Val.{SFits, to_z, of_z}
use borrow.Author.Rules.{rules}
use borrow.Author.Tests.{lt-ltb}
use Rattle.numbers.specs.Number.{is_fit, is_between, is_significand}
use Rattle.numbers.specs.declared.number.Number.{Number}
use Rattle.numbers.specs.declared.number.Number.TheVariants.{Zero, Finite}
use Rattle.numbers.proofs.number.is_fit.Goals as goal
use Rattle.numbers.proofs.number.is_fit.Goals.{else-lowest-exponent-via-then-lowest-exponent+else-exponent-highest, else-lowest-exponent-via-else-lowest-exponent}

module _ (lowest highest : ℤ) (x : Number) where
  zero_fit : x ≡ Zero → true ≡ is_fit (is_between lowest highest) x
  unfolding is_fit
  zero_fit e = rw e

  module _ (negative : Bool) (e : ℤ) (S : ℕ) (is : x ≡ Finite negative e S) where
    between : le_z lowest e ≡ true → le_z e highest ≡ true → S < 2 ^ 64 → leb (2 ^ 63) S ≡ is_fit (is_between lowest highest) x
    unfolding is_fit is_between is_significand
    between low high fits = rw (is, low, high, lt-ltb S (2 ^ 64) fits) (sym (and-true (leb (2 ^ 63) S)))

    above : le_z e highest ≡ false → false ≡ is_fit (is_between lowest highest) x
    unfolding is_fit is_between is_significand
    above high = rw (is, high, and-false (le_z lowest e))

    below : le_z lowest e ≡ false → false ≡ is_fit (is_between lowest highest) x
    unfolding is_fit is_between is_significand
    below low = rw (is, low)

-- a test of two signed numbers, as the machine reads them from their bits
as_read : {a b : ℤ} {t : Bool} → SFits w32 a → SFits w32 b → le_z (to_z w32 (of_z w32 a)) (to_z w32 (of_z w32 b)) ≡ t → le_z a b ≡ t
as_read ha hb e = sym (ap₂ le_z (to_z-of_z ha) (to_z-of_z hb)) ∙ e

pub returns-in_default : goal.returns-in_default
returns-in_default c = zero_fit _ _ _ c.in_default.is

pub returns-then-exponent-highest : goal.returns-then-exponent-highest
returns-then-exponent-highest c =
    let fits : SFits w32 c.in-Finite.exponent = search rules in
    between _ _ _ _ _ _ c.in-Finite.is (as_read c.ranges.lowest fits c.if-lowest-exponent.true) (as_read fits c.ranges.highest c.if-exponent-highest.true) (omega arith)

pub returns : goal.returns
returns c =
    let fits : SFits w32 c.in-Finite.exponent = search rules in
    elim c.else-lowest-exponent.branch [
      | else-lowest-exponent-via-then-lowest-exponent+else-exponent-highest w ↦
          above _ _ _ _ _ _ c.in-Finite.is (as_read fits c.ranges.highest w.if-exponent-highest.false)
      | else-lowest-exponent-via-else-lowest-exponent w ↦
          below _ _ _ _ _ _ c.in-Finite.is (as_read c.ranges.lowest fits w.if-lowest-exponent.false)
    ]
