-- `numbers::number::negated` meets its contract, by the number's case.
use mathlib.Core.Path.{◌≡◌}
use mathlib.Core.Bool.{Bool, not}
use Prim.Native.Nat.{ℕ}
use borrow.Author.Rules.{rules}
use lib.IntN.{ℤ}
use mir.Facts.{to_z-of_z}
use mir.Syntax.{w32}
use mir.Val.{SFits, to_z, of_z}
use Rattle.numbers.specs.Number.{negated}
use Rattle.numbers.specs.declared.number.Number.{Number}
use Rattle.numbers.specs.declared.number.Number.TheVariants.{Zero, Finite}
use Rattle.numbers.proofs.number.negated.Goals as goal

of_zero : (x : Number) → x ≡ Zero → Zero ≡ negated x
unfolding negated
of_zero x e = rw e

of_finite : (x : Number) (s : Bool) (e : ℤ) (S : ℕ) → x ≡ Finite s e S → SFits w32 e → Finite (not s) (to_z w32 (of_z w32 e)) S ≡ negated x
unfolding negated
of_finite x s e S k fits = rw (k, to_z-of_z fits)

pub returns-in-Zero : goal.returns-in-Zero
returns-in-Zero c = of_zero _ c.in-Zero.is

pub returns-in-Finite : goal.returns-in-Finite
returns-in-Finite c =
    let fits : SFits w32 c.in-Finite.exponent = search rules in
    of_finite _ _ _ _ c.in-Finite.is fits
