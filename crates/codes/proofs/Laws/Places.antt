-- The field of an exponent in a format, and how far the exponent lies below the lowest one.
use mathlib.Core.Path.{◌≡◌, refl, ◌∙◌}
use mathlib.Core.Bool.{Bool, true, false, cond}
use Prim.Native.Nat.{ℕ, zero, suc, ◌+◌, ◌-◌}
use native.Mathlib.Nat.{add-zero}
use native.Mathlib.Omega.{arith}
use lib.Dec.{leb}
use lib.Ieee.{minus}
use lib.IntN.{nat_abs}
use lib.Signed.{le_z}
use borrow.Author.Tests.{leb-true, leb-false, ne_eqb}
use Rattle.numbers.specs.Biased.{bias}
use Rattle.numbers.proofs.Laws.Minus.{minus_split, minus_plus, minus_minus, minus_order}
use Rattle.numbers.proofs.Laws.Splits.{pos_split, order_test, abs_split}
use Rattle.codes.specs.Codes.{counted, field_of, below_normal}
use Rattle.codes.specs.Layout.{IsFormat}
use Rattle.codes.specs.declared.code.Format.{Format}

-- field 0 counts as field 1
pub counted_is : (field : ℕ) → counted field ≡ field + (1 - field)
counted_is zero = refl
counted_is (suc n) = rw (ne_eqb (suc n) 0 (λ (z : suc n ≡ 0). omega arith)) (omega arith)

-- The exponent b − 65,535 is that of a normal number, or lies below; the differences of natural numbers say which. 65,536 is the bias and 1, for field 1.
module _ (f : Format) (b : ℕ) (formed : IsFormat f) where
  pub order : le_z f.lowest (minus b bias) ≡ leb 65536 (b + f.bias)
  order = rw formed.lowest_is (minus_order 1 f.bias b bias)

  pub field_is : field_of f (minus b bias) ≡ b + f.bias - bias
  unfolding field_of
  field_is = rw (order, minus_plus b bias f.bias) (go (leb 65536 (b + f.bias)) refl)
    where
      go : (t : Bool) → leb 65536 (b + f.bias) ≡ t → cond t (nat_abs (minus (b + f.bias) bias)) 0 ≡ b + f.bias - bias
      go true h = omega (arith, leb-true 65536 (b + f.bias) h, abs_split (minus_split (b + f.bias) bias))
      go false h = omega (arith, leb-false 65536 (b + f.bias) h)

  pub below_is : below_normal f (minus b bias) ≡ 65536 - (b + f.bias)
  unfolding below_normal
  below_is = rw (order, formed.lowest_is, minus_minus 1 f.bias b bias) (go (leb 65536 (b + f.bias)) refl)
    where
      go : (t : Bool) → leb 65536 (b + f.bias) ≡ t → cond t 0 (nat_abs (minus 65536 (f.bias + b))) ≡ 65536 - (b + f.bias)
      go true h = omega (arith, leb-true 65536 (b + f.bias) h)
      go false h = omega (arith, leb-false 65536 (b + f.bias) h, abs_split (minus_split 65536 (f.bias + b)))

  -- is the exponent not above the highest one?
  pub not_above : le_z (minus b bias) f.highest ≡ leb b (f.bias + bias)
  not_above = rw formed.highest_is (order_test (minus_split b bias) (pos_split f.bias) ∙ rw (add-zero b))
