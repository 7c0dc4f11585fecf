-- `codes::pack::place_of` meets its contract: the sum and the difference of exponents, as the machine has them, are the field and the distance.
use mathlib.Core.Path.{◌≡◌, sym, ap, ap₂, ◌∙◌}
use mathlib.Core.Bool.{Bool, true, false}
use Prim.Native.Nat.{ℕ, ◌+◌, ◌≤◌, ◌<◌}
use native.Mathlib.Omega.{arith}
use lib.Ieee.{minus}
use lib.IntN.{ℤ, pos, nat_abs, ◌+ℤ◌, ◌-ℤ◌}
use lib.Signed.{le_z, non_neg}
use lib.Dec.{T, leb}
use mir.Facts.{to_z-of_z, to_z_pos}
use mir.Syntax.{w32}
use mir.Val.{SFits, Fits, to_z, of_z}
use borrow.Author.Tests.{leb-true, leb-false}
use Rattle.numbers.specs.Biased.{bias, highest_biased}
use Rattle.numbers.specs.Number.{is_working_exponent}
use Rattle.numbers.proofs.Laws.Bias.{biased_working}
use Rattle.numbers.proofs.Laws.Minus.{minus_natural, minus_plus, minus_minus}
use Rattle.numbers.proofs.Laws.SignedWords.{minus_fits, IsWhole, whole_fits, whole_read, whole_cast}
use Rattle.codes.specs.Codes.{field_of, below_normal}
use Rattle.codes.specs.Layout.{IsFormat}
use Rattle.codes.specs.declared.code.Format.{Format}
use Rattle.codes.proofs.Laws.Places.{order, field_is, below_is}
use Rattle.codes.proofs.pack.place_of.Goals as goal

cast : {z : ℤ} {k : ℕ} → IsWhole w32 z k → T (non_neg (to_z w32 (of_z w32 z))) × Fits w32 (nat_abs (to_z w32 (of_z w32 z)))
cast whole = whole_cast whole w32 (omega (arith, whole.small))

module _ (f : Format) (e : ℤ) (formed : IsFormat f) (needed : is_working_exponent e ≡ true) (fits : SFits w32 e) where
  -- the exponent, biased
  b : ℕ
  b = (biased_working e needed).0

  most : b ≤ highest_biased
  unfolding b
  most = (biased_working e needed).2

  is : e ≡ minus b bias
  unfolding b
  is = (biased_working e needed).3

  lowest_fits : SFits w32 f.lowest
  lowest_fits = rw formed.lowest_is (minus_fits 1 f.bias (omega arith) (omega (arith, formed.small_bias)))

  abbrev is_normal : Bool
  is_normal = le_z (to_z w32 (of_z w32 f.lowest)) (to_z w32 (of_z w32 e))

  test : is_normal ≡ leb 65536 (b + f.bias)
  test = ap₂ le_z (to_z-of_z lowest_fits) (to_z-of_z fits ∙ is) ∙ order f b formed

  module _ (h : is_normal ≡ true) where
    reaches : 65536 ≤ b + f.bias
    reaches = leb-true 65536 (b + f.bias) (sym test ∙ h)

    field : IsWhole w32 (to_z w32 (of_z w32 e) +ℤ to_z w32 f.bias) (field_of f e)
    field =
        let small = formed.small_bias in
        rw (to_z-of_z fits, to_z_pos w32 {n = f.bias} (omega arith), is, field_is f b formed) (record {
          is = minus_plus b bias f.bias ∙ minus_natural (b + f.bias) bias (omega (arith, reaches));
          small = omega (arith, most);
        })

    normal : (nat_abs (to_z w32 (of_z w32 (to_z w32 (of_z w32 e) +ℤ to_z w32 f.bias))) ≡ field_of f e) × (0 ≡ below_normal f e)
    normal = (ap nat_abs (whole_read field), rw (is, below_is f b formed) (omega (arith, reaches)))

  module _ (h : is_normal ≡ false) where
    misses : b + f.bias < 65536
    misses = leb-false 65536 (b + f.bias) (sym test ∙ h)

    gap : IsWhole w32 (to_z w32 (of_z w32 f.lowest) -ℤ to_z w32 (of_z w32 e)) (below_normal f e)
    gap =
        let at = ap (below_normal f) is ∙ below_is f b formed in
        record {
          is =
              ap₂ ◌-ℤ◌ (to_z-of_z lowest_fits ∙ formed.lowest_is) (to_z-of_z fits ∙ is) ∙ minus_minus 1 f.bias b bias
              ∙ minus_natural 65536 (f.bias + b) (omega (arith, misses)) ∙ ap pos (omega arith);
          small = omega arith;
        }

    below : (0 ≡ field_of f e) × (nat_abs (to_z w32 (of_z w32 (to_z w32 (of_z w32 f.lowest) -ℤ to_z w32 (of_z w32 e)))) ≡ below_normal f e)
    below = (rw (is, field_is f b formed) (omega (arith, misses)), ap nat_abs (whole_read gap))

pub overflow_add-result : goal.overflow_add-result
overflow_add-result g c = whole_fits (field _ _ (rw (← c.FORMAT-format.ensures) at g.met.F.Layout.formed) c.requires c.ranges.exponent c.if-format-exponent.true)

pub overflow_cast-result-then-format-exponent : goal.overflow_cast-result-then-format-exponent
overflow_cast-result-then-format-exponent g c = cast (field _ _ (rw (← c.FORMAT-format.ensures) at g.met.F.Layout.formed) c.requires c.ranges.exponent c.if-format-exponent.true)

pub overflow_sub-result : goal.overflow_sub-result
overflow_sub-result g c = whole_fits (gap _ _ (rw (← c.FORMAT-format.ensures) at g.met.F.Layout.formed) c.requires c.ranges.exponent c.if-format-exponent.false)

pub overflow_cast-result-else-format-exponent : goal.overflow_cast-result-else-format-exponent
overflow_cast-result-else-format-exponent g c = cast (gap _ _ (rw (← c.FORMAT-format.ensures) at g.met.F.Layout.formed) c.requires c.ranges.exponent c.if-format-exponent.false)

pub returns-then-format-exponent : goal.returns-then-format-exponent
returns-then-format-exponent g c = rw (← c.FORMAT-format.ensures) (normal _ _ (rw (← c.FORMAT-format.ensures) at g.met.F.Layout.formed) c.requires c.ranges.exponent c.if-format-exponent.true)

pub returns-else-format-exponent : goal.returns-else-format-exponent
returns-else-format-exponent g c = rw (← c.FORMAT-format.ensures) (below _ _ (rw (← c.FORMAT-format.ensures) at g.met.F.Layout.formed) c.requires c.ranges.exponent c.if-format-exponent.false)
