-- Exact operations on fractions depend on their values alone, and what they are by signs and magnitudes; and the test of equal fractions.
use mathlib.Core.Path.{◌≡◌, refl, sym, ap, ap₂, ◌∙◌}
use mathlib.Core.Bool.{Bool, true, false, not, cond, and-eq-true_iff}
use Prim.Native.Nat.{ℕ, zero, suc, ◌+◌, ◌-◌, ◌*◌, ◌≤◌, ◌<◌}
use native.Mathlib.Nat.{add-mul, le_antisymm, le_refl, mul_comm, mul_assoc, mul-le-mul_right, lt_of_mul-lt-mul_right, mul-pos}
use native.Mathlib.Omega.{arith}
use borrow.Author.Tests.{leb-true, le-leb}
use lib.Ieee.{unlike}
use lib.IntN.{ℤ, pos, negsuc, neg_ℤ, neg_ℤ-neg_ℤ, nat_abs, +ℤ_comm, zero-*ℤ, ◌*ℤ◌}
use Rattle.numbers.specs.Fraction.{Fraction, IsFraction, Equal, is_equal, signed, is_negative, sum, difference, product, divided_by, quotient}
use Rattle.numbers.proofs.Laws.Pairs.{fraction, own_pair, signed_pair, fraction_pair, one_fraction, equal_pair, sum_pair, difference_pair, product_pair}
use Rattle.numbers.proofs.Laws.Signs.{abs_signed, negative_signed, signed_abs, abs_zero}
use Rattle.numbers.proofs.Laws.Splits.{own_split, same_split, order_test, opposite_split, times_split, product_split, times_times, signed_times, same_sign}

pub sum_fraction : (x y : Fraction) → IsFraction x → IsFraction y → IsFraction (sum x y)
unfolding sum
sum_fraction x y x0 y0 = mul-pos x0 y0

pub difference_fraction : (x y : Fraction) → IsFraction x → IsFraction y → IsFraction (difference x y)
unfolding difference
difference_fraction x y x0 y0 = mul-pos x0 y0

pub product_fraction : (x y : Fraction) → IsFraction x → IsFraction y → IsFraction (product x y)
unfolding product
product_fraction x y x0 y0 = mul-pos x0 y0

-- equal fractions: the magnitudes' cross products, and the signs
abs_times : (z : ℤ) (d : ℕ) → nat_abs (z *ℤ pos d) ≡ nat_abs z * d
unfolding signed
abs_times (pos a) d = refl
abs_times (negsuc a) d = abs_signed true (suc a * d)

pub equal_magnitudes : (x y : Fraction) → Equal x y → nat_abs x.numerator * y.denominator ≡ nat_abs y.numerator * x.denominator
unfolding Equal
equal_magnitudes x y e = sym (abs_times x.numerator y.denominator) ∙ ap nat_abs e ∙ abs_times y.numerator x.denominator

sign_times : (z : ℤ) (d : ℕ) → 0 < d → is_negative (z *ℤ pos d) ≡ is_negative z
unfolding signed is_negative
sign_times (pos a) d d0 = refl
sign_times (negsuc a) d d0 = negative_signed true (suc a * d) (omega (arith, mul-le-mul_right a d0, mul-le-mul_right d (let l : 1 ≤ suc a = omega arith in l)))

pub equal_signs : (x y : Fraction) → IsFraction x → IsFraction y → Equal x y → is_negative x.numerator ≡ is_negative y.numerator
unfolding Equal
equal_signs x y x0 y0 e = sym (sign_times x.numerator y.denominator y0) ∙ ap is_negative e ∙ sign_times y.numerator x.denominator x0

-- two of one sign are equal where the cross products of the magnitudes are
pub signed_equal : (s : Bool) (a b c d : ℕ) → a * d ≡ c * b → Equal (fraction (signed s a) b) (fraction (signed s c) d)
unfolding Equal
signed_equal s a b c d e = signed_times s a d ∙ ap (signed s) e ∙ sym (signed_times s c b)

pub sum_swap : (x y : Fraction) → sum x y ≡ sum y x
unfolding sum
sum_swap x y =
    ap₂ fraction (+ℤ_comm (x.numerator *ℤ pos y.denominator) (y.numerator *ℤ pos x.denominator)) (mul_comm x.denominator y.denominator)

-- zero added, and three fractions in either grouping
pub sum_zero : (x : Fraction) → sum (fraction (pos 0) 1) x ≡ x
sum_zero x = one_fraction (sum_pair (own_pair (fraction (pos 0) 1)) (own_pair x)) (own_pair x) (omega arith) (omega arith)

pub sum_grouped : (x y z : Fraction) → sum (sum x y) z ≡ sum x (sum y z)
sum_grouped x y z =
    one_fraction (sum_pair (sum_pair (own_pair x) (own_pair y)) (own_pair z)) (sum_pair (own_pair x) (sum_pair (own_pair y) (own_pair z))) (omega arith)
    (mul_assoc x.denominator y.denominator z.denominator)

-- (a − b) / d = (A − B) / D, multiplied out
module _ (a b d A B D : ℕ) (h : a * D + B * d ≡ A * d + b * D) where
  widened : (e E : ℕ) → a * e * (D * E) + B * E * (d * e) ≡ A * E * (d * e) + b * e * (D * E)
  widened e E = omega (arith, ap (λ (n : ℕ). n * (e * E)) h)

  times_right : (p E : ℕ) → a * p * (D * E) + B * p * (d * E) ≡ A * p * (d * E) + b * p * (D * E)
  times_right p E = omega (arith, ap (λ (n : ℕ). n * (p * E)) h)

  times_left : (c e : ℕ) → c * a * (e * D) + c * B * (e * d) ≡ c * A * (e * d) + c * b * (e * D)
  times_left c e = omega (arith, ap (λ (n : ℕ). n * (c * e)) h)

-- equal fractions in place of both: (a − b) / d and (A − B) / D, (p − q) / e and (P − Q) / E
module _ (a b d A B D p q e P Q E : ℕ) (h : a * D + B * d ≡ A * d + b * D) (k : p * E + Q * e ≡ P * e + q * E) where
  sum_cross : (a * e + p * d) * (D * E) + (B * E + Q * D) * (d * e) ≡ (A * E + P * D) * (d * e) + (b * e + q * d) * (D * E)
  sum_cross = simp add-mul (omega (arith, widened a b d A B D h e E, widened p q e P Q E k d D))

  difference_cross : (a * e + q * d) * (D * E) + (B * E + P * D) * (d * e) ≡ (A * E + Q * D) * (d * e) + (b * e + p * d) * (D * E)
  difference_cross = simp add-mul (omega (arith, widened a b d A B D h e E, widened p q e P Q E k d D))

  product_cross : (a * p + b * q) * (D * E) + (A * Q + B * P) * (d * e) ≡ (A * P + B * Q) * (d * e) + (a * q + b * p) * (D * E)
  product_cross =
      simp add-mul (omega (arith, times_right a b d A B D h p E, times_right a b d A B D h q E, times_left p q e P Q E k A d, times_left p q e P Q E k B d))

module _ (x y u v : Fraction) (h : Equal x u) (k : Equal y v) where
  pub sum_equal : Equal (sum x y) (sum u v)
  sum_equal =
      (equal_pair (sum_pair (own_pair x) (own_pair y)) (sum_pair (own_pair u) (own_pair v))).1
      (sum_cross _ _ _ _ _ _ _ _ _ _ _ _ ((equal_pair (own_pair x) (own_pair u)).0 h) ((equal_pair (own_pair y) (own_pair v)).0 k))

  pub difference_equal : Equal (difference x y) (difference u v)
  difference_equal =
      (equal_pair (difference_pair (own_pair x) (own_pair y)) (difference_pair (own_pair u) (own_pair v))).1
      (difference_cross _ _ _ _ _ _ _ _ _ _ _ _ ((equal_pair (own_pair x) (own_pair u)).0 h) ((equal_pair (own_pair y) (own_pair v)).0 k))

  pub product_equal : Equal (product x y) (product u v)
  product_equal =
      (equal_pair (product_pair (own_pair x) (own_pair y)) (product_pair (own_pair u) (own_pair v))).1
      (product_cross _ _ _ _ _ _ _ _ _ _ _ _ ((equal_pair (own_pair x) (own_pair u)).0 h) ((equal_pair (own_pair y) (own_pair v)).0 k))

-- a difference is the sum with the opposite
abbrev pub opposite : Fraction → Fraction
opposite x = fraction (neg_ℤ x.numerator) x.denominator

pub difference_sum : (x y : Fraction) → difference x y ≡ sum x (opposite y)
difference_sum x y =
    one_fraction (difference_pair (own_pair x) (own_pair y)) (sum_pair (own_pair x) (fraction_pair y.denominator (opposite_split (own_split y.numerator))))
    refl refl

-- ---- sums over one denominator

pub same_sum : (s : Bool) (a b d : ℕ) → Equal (sum (fraction (signed s a) d) (fraction (signed s b) d)) (fraction (signed s (a + b)) d)
unfolding Equal sum
same_sum s a b d = simp (signed_times, same_sign) (ap (signed s) (omega arith))

pub other_sum : (s : Bool) (a b d : ℕ) → b ≤ a → Equal (sum (fraction (signed s a) d) (fraction (signed (not s) b) d)) (fraction (signed s (a - b)) d)
other_sum s a b d h =
    (equal_pair (sum_pair (signed_pair _ s a refl) (signed_pair _ (not s) b refl)) (signed_pair (fraction (signed s (a - b)) d) s (a - b) refl)).1 (level s)
  where
    apart : a * d * d ≡ (a - b) * d * d + b * d * d
    apart = omega (arith, ap (λ (n : ℕ). n * d * d) (let e : a ≡ a - b + b = omega arith in e))

    level : (s : Bool)
        → (cond s 0 a * d + cond (not s) 0 b * d) * d + cond s (a - b) 0 * (d * d) ≡ cond s 0 (a - b) * (d * d) + (cond s a 0 * d + cond (not s) b 0 * d) * d
    level false = omega (arith, apart)
    level true = omega (arith, apart)

-- ---- the quotient

two_turns : (z : ℤ) (q : ℕ) → neg_ℤ z *ℤ negsuc q ≡ z *ℤ pos (suc q)
two_turns z q =
    (same_split (product_split (opposite_split (own_split z)) (own_split (negsuc q))) (times_split (suc q) (own_split z))).1 (omega arith)

pub quotient_fraction : (x y : Fraction) → IsFraction x → 0 < nat_abs y.numerator → IsFraction (quotient x y)
unfolding quotient divided_by
quotient_fraction x y x0 y0 = go y.numerator y0
  where
    go : (q : ℤ) → 0 < nat_abs q → 0 < (divided_by (x.numerator *ℤ pos y.denominator) x.denominator q).denominator
    go (pos q) q0 = mul-pos x0 q0
    go (negsuc q) q0 = mul-pos x0 q0

-- the quotient times its divisor is the dividend
pub quotient_product : (x y : Fraction) → Equal (product (quotient x y) y) x
unfolding Equal product quotient divided_by
quotient_product x y = go y.numerator refl
  where
    level : (d a q : ℕ) (z : ℤ) → z *ℤ pos d *ℤ pos q *ℤ pos a ≡ z *ℤ pos (a * q * d)
    level d a q z = simp times_times (ap (λ (m : ℕ). z *ℤ pos m) (omega arith))

    go : (q : ℤ) → y.numerator ≡ q
        → (divided_by (x.numerator *ℤ pos y.denominator) x.denominator q).numerator *ℤ q *ℤ pos x.denominator
        ≡ x.numerator *ℤ pos ((divided_by (x.numerator *ℤ pos y.denominator) x.denominator q).denominator * y.denominator)
    go (pos q) e = level y.denominator x.denominator q x.numerator
    go (negsuc q) e =
        ap (λ (z : ℤ). z *ℤ pos x.denominator) (two_turns (x.numerator *ℤ pos y.denominator) q)
        ∙ level y.denominator x.denominator (suc q) x.numerator

-- the quotient, by signs and magnitudes
pub quotient_signed : (s t : Bool) (a b c d : ℕ) → 0 < c → quotient (fraction (signed s a) b) (fraction (signed t c) d) ≡ fraction (signed (unlike s t) (a * d)) (b * c)
unfolding quotient divided_by signed
quotient_signed false false a b c d c0 = refl
quotient_signed true false a b c d c0 = ap (λ (z : ℤ). fraction z (b * c)) (signed_times true a d)
quotient_signed s true a b zero d c0 = absurd (omega arith)
quotient_signed false true a b (suc c) d c0 = refl
quotient_signed true true a b (suc c) d c0 = ap (λ (z : ℤ). fraction z (b * suc c)) (ap neg_ℤ (signed_times true a d) ∙ neg_ℤ-neg_ℤ (pos (a * d)))

quotient_parts : (x y : Fraction) → 0 < nat_abs y.numerator
    → quotient x y
    ≡ fraction (signed (unlike (is_negative x.numerator) (is_negative y.numerator)) (nat_abs x.numerator * y.denominator)) (x.denominator * nat_abs y.numerator)
quotient_parts x y some =
    ap₂ quotient (parts x) (parts y)
    ∙ quotient_signed (is_negative x.numerator) (is_negative y.numerator) (nat_abs x.numerator) x.denominator (nat_abs y.numerator) y.denominator some
  where
    parts : (x : Fraction) → x ≡ fraction (signed (is_negative x.numerator) (nat_abs x.numerator)) x.denominator
    parts x = ap (λ (z : ℤ). fraction z x.denominator) (sym (signed_abs x.numerator))

pub quotient_equal : (x y u v : Fraction) → IsFraction x → IsFraction y → IsFraction u → IsFraction v → 0 < nat_abs y.numerator → Equal x u → Equal y v
    → Equal (quotient x y) (quotient u v)
unfolding Equal
quotient_equal x y u v x0 y0 u0 v0 some e f =
    rw (quotient_parts x y some, quotient_parts u v other, equal_signs x u x0 u0 e, equal_signs y v y0 v0 f)
    (simp signed_times
    (ap (signed (unlike (is_negative u.numerator) (is_negative v.numerator))) (omega (arith, ap₂ ◌*◌ (equal_magnitudes x u e) (sym (equal_magnitudes y v f))))))
  where
    other : 0 < nat_abs v.numerator
    other = lt_of_mul-lt-mul_right y.denominator (omega (arith, equal_magnitudes y v f, mul-pos some v0))

-- zero divided by a number is zero
pub quotient_zero : (x y : Fraction) → nat_abs x.numerator ≡ 0 → nat_abs (quotient x y).numerator ≡ 0
unfolding quotient divided_by
quotient_zero x y none = go y.numerator
  where
    nothing : x.numerator *ℤ pos y.denominator ≡ pos 0
    nothing = ap (λ (z : ℤ). z *ℤ pos y.denominator) (abs_zero x.numerator none) ∙ zero-*ℤ (pos y.denominator)

    go : (z : ℤ) → nat_abs (divided_by (x.numerator *ℤ pos y.denominator) x.denominator z).numerator ≡ 0
    go (pos q) = ap nat_abs nothing
    go (negsuc q) = ap (λ (z : ℤ). nat_abs (neg_ℤ z)) nothing

-- ---- the test of two fractions: it passes exactly where they are equal

pub equal_test : (x y : Fraction) → is_equal x y ≡ true → Equal x y
unfolding is_equal Equal
equal_test x y h =
    let a = own_split (x.numerator *ℤ pos y.denominator) in
    let b = own_split (y.numerator *ℤ pos x.denominator) in
    let both = (and-eq-true_iff _ _).0 h in
    (same_split a b).1 (le_antisymm (leb-true _ _ (sym (order_test a b) ∙ both.0)) (leb-true _ _ (sym (order_test b a) ∙ both.1)))

pub equal_passes : (x y : Fraction) → Equal x y → is_equal x y ≡ true
unfolding is_equal Equal
equal_passes x y h = let b = own_split (y.numerator *ℤ pos x.denominator) in rw (h, order_test b b) (rw (le-leb _ _ (le_refl _)))
