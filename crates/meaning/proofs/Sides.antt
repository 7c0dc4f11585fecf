-- A fraction by the side of zero it lies on: its part on the side of a sign, and its part on the other side. Order, equality and distance, in these parts.
use mathlib.Core.Path.{◌≡◌, refl, sym, ap, ◌∙◌}
use mathlib.Core.Bool.{Bool, true, false, not}
use mathlib.Core.Logic.Iff
use mathlib.Core.Logic.{◌↔◌, ◌⊎◌, inl, inr}
use Prim.Native.Nat.{ℕ, ◌+◌, ◌*◌, ◌≤◌}
use native.Mathlib.Nat.{le_antisymm}
use native.Mathlib.Omega.{arith}
use lib.Dec.{leb→le, le→leb}
use lib.IntN.{ℤ, pos, negsuc, nat_abs, ◌*ℤ◌}
use lib.Signed.{le_z_yes}
use Rattle.numbers.specs.Fraction.{Fraction, Equal, AtMost, HasSign, signed, difference, magnitude, above, below}
use Rattle.numbers.proofs.Laws.Splits.{signed_times, abs_split}
use Rattle.numbers.proofs.Laws.Pairs.{own_pair, signed_pair, at_most_pair, equal_pair, difference_pair}
use Rattle.numbers.proofs.Laws.Ratio.{gap, Ordered}

-- the part of z on the side of the sign s; `along (not s)` is the part on the other side
abbrev pub along : Bool → ℤ → ℕ
along false z = above z
along true z = below z

-- a number lies on one side of zero
abbrev pub OneSide : Bool → ℤ → Type 0
OneSide s z = ((along s z ≡ nat_abs z) × (along (not s) z ≡ 0)) ⊎ ((along s z ≡ 0) × (along (not s) z ≡ nat_abs z))

pub one_side : (s : Bool) (z : ℤ) → OneSide s z
one_side false (pos a) = inl (refl, refl)
one_side false (negsuc a) = inr (refl, refl)
one_side true (pos a) = inr (refl, refl)
one_side true (negsuc a) = inl (refl, refl)

-- ---- v against u, which has the sign s: order, equality, and how far they are apart

pub side_above : (s : Bool) (u v : Fraction) → HasSign s u
    → AtMost u v ↔ Ordered s (nat_abs u.numerator * v.denominator + along (not s) v.numerator * u.denominator) (along s v.numerator * u.denominator)
side_above false u v h = Iff.trans (at_most_pair (signed_pair u false _ h) (own_pair v)) (omega arith)
side_above true u v h = Iff.trans (at_most_pair (signed_pair u true _ h) (own_pair v)) (omega arith)

pub side_below : (s : Bool) (u v : Fraction) → HasSign s u
    → AtMost v u ↔ Ordered s (along s v.numerator * u.denominator) (nat_abs u.numerator * v.denominator + along (not s) v.numerator * u.denominator)
side_below false u v h = Iff.trans (at_most_pair (own_pair v) (signed_pair u false _ h)) (omega arith)
side_below true u v h = Iff.trans (at_most_pair (own_pair v) (signed_pair u true _ h)) (omega arith)

pub side_equal : (s : Bool) (u v : Fraction) → HasSign s u
    → Equal v u ↔ (along s v.numerator * u.denominator ≡ nat_abs u.numerator * v.denominator + along (not s) v.numerator * u.denominator)
side_equal false u v h = Iff.trans (equal_pair (own_pair v) (signed_pair u false _ h)) (omega arith)
side_equal true u v h = Iff.trans (equal_pair (own_pair v) (signed_pair u true _ h)) (omega arith)

pub side_distance : (s : Bool) (u v : Fraction) → HasSign s u
    → nat_abs (difference v u).numerator
    ≡ gap (along s v.numerator * u.denominator) (along (not s) v.numerator * u.denominator + nat_abs u.numerator * v.denominator)
side_distance false u v h =
    let a = above v.numerator * u.denominator in
    let b = below v.numerator * u.denominator in
    let c = nat_abs u.numerator * v.denominator in
    abs_split (difference_pair (own_pair v) (signed_pair u false _ h)).upper
    ∙ (let e : gap (a + 0 * v.denominator) (b + c) ≡ gap a (b + c) = omega arith in e)
side_distance true u v h =
    let a = above v.numerator * u.denominator in
    let b = below v.numerator * u.denominator in
    let c = nat_abs u.numerator * v.denominator in
    abs_split (difference_pair (own_pair v) (signed_pair u true _ h)).upper
    ∙ (let e : gap (a + c) (b + 0 * v.denominator) ≡ gap b (a + c) = omega arith in e)

-- ---- order and equality

-- the order of two magnitudes
pub size_order : (x y : Fraction) → AtMost (magnitude x) (magnitude y) ↔ (nat_abs x.numerator * y.denominator ≤ nat_abs y.numerator * x.denominator)
unfolding AtMost magnitude
size_order x y = (
  λ h. leb→le (nat_abs x.numerator * y.denominator) (nat_abs y.numerator * x.denominator) h.le,
  λ h. le_z_yes (le→leb (nat_abs x.numerator * y.denominator) (nat_abs y.numerator * x.denominator) h),
)

-- two that are each at most the other are equal
pub at_most_both : (x y : Fraction) → AtMost x y → AtMost y x → Equal x y
at_most_both x y h k =
    let a = (at_most_pair (own_pair x) (own_pair y)).0 h in
    let b = (at_most_pair (own_pair y) (own_pair x)).0 k in
    (equal_pair (own_pair x) (own_pair y)).1 (omega arith)

-- two of one sign are equal where their magnitudes are
pub same_size : (s : Bool) (x y : Fraction) → HasSign s x → HasSign s y → AtMost (magnitude x) (magnitude y) → AtMost (magnitude y) (magnitude x)
    → Equal x y
unfolding Equal
same_size s x y hx hy h k =
    ap (λ (z : ℤ). z *ℤ pos y.denominator) hx
    ∙ signed_times s (nat_abs x.numerator) y.denominator
    ∙ ap (signed s) (le_antisymm ((size_order x y).0 h) ((size_order y x).0 k))
    ∙ sym (ap (λ (z : ℤ). z *ℤ pos x.denominator) hy ∙ signed_times s (nat_abs y.numerator) x.denominator)

-- a law for both orders, with a sign
pub ordered_by : (s : Bool) {a b c d : ℕ} → (a ≤ b → c ≤ d) → (b ≤ a → d ≤ c) → Ordered s a b → Ordered s c d
ordered_by false h k = h
ordered_by true h k = k
