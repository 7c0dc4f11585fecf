-- A whole number by its sign and its magnitude, and the order of two; the sign of a product.
use mathlib.Core.Path.{◌≡◌, refl, ap}
use mathlib.Core.Bool.{Bool, true, false}
use Prim.Native.Nat.{ℕ, zero, suc, ◌<◌}
use native.Mathlib.Omega.{arith}
use lib.IntN.{ℤ, pos, negsuc, nat_abs}
use lib.Signed.{◌≤ℤ◌, le_z_yes}
use lib.Dec.{le→leb}
use lib.Ieee.{unlike}
use Rattle.numbers.specs.Fraction.{signed, is_negative}
use Rattle.numbers.proofs.Laws.Ratio.{Ordered}

pub abs_signed : (s : Bool) (a : ℕ) → nat_abs (signed s a) ≡ a
unfolding signed
abs_signed false a = refl
abs_signed true zero = refl
abs_signed true (suc a) = refl

pub negative_signed : (s : Bool) (a : ℕ) → 0 < a → is_negative (signed s a) ≡ s
unfolding signed is_negative
negative_signed false a h = refl
negative_signed true zero h = absurd (omega arith)
negative_signed true (suc a) h = refl

pub signed_abs : (z : ℤ) → signed (is_negative z) (nat_abs z) ≡ z
unfolding signed is_negative
signed_abs (pos a) = refl
signed_abs (negsuc a) = refl

pub signed_zero : (s : Bool) → signed s 0 ≡ pos 0
unfolding signed
signed_zero false = refl
signed_zero true = refl

-- only zero has the magnitude 0
pub abs_zero : (z : ℤ) → nat_abs z ≡ 0 → z ≡ pos 0
abs_zero (pos a) e = ap pos e
abs_zero (negsuc a) e = absurd (omega arith)

-- the sign of a product: of two of one sign, with a positive number, and with one sign twice
pub unlike_same : (s : Bool) → unlike s s ≡ false
unlike_same false = refl
unlike_same true = refl

pub unlike_plus : (s : Bool) → unlike s false ≡ s
unlike_plus false = refl
unlike_plus true = refl

pub unlike_twice : (s t : Bool) → unlike (unlike s t) t ≡ s
unlike_twice false false = refl
unlike_twice false true = refl
unlike_twice true false = refl
unlike_twice true true = refl

-- the order
pub signed_order : (s : Bool) (a b : ℕ) → Ordered s a b → signed s a ≤ℤ signed s b
unfolding signed
signed_order false a b h = le_z_yes (le→leb a b h)
signed_order true zero zero h = le_z_yes tt
signed_order true zero (suc b) h = absurd (omega arith)
signed_order true (suc a) zero h = le_z_yes tt
signed_order true (suc a) (suc b) h = le_z_yes (le→leb b a (omega arith))
