-- Whole numbers as differences of two natural ones: their sums, products and order are then facts of ℕ.
use mathlib.Core.Path.{◌≡◌, refl, sym, ap, ◌∙◌}
use mathlib.Core.Bool.{Bool, true, false, not, cond}
use mathlib.Core.Logic.{◌↔◌}
use Prim.Native.Nat.{ℕ, zero, suc, ◌+◌, ◌-◌, ◌*◌, ◌≤◌, ◌<◌}
use native.Mathlib.Nat.{lt_of_not-le}
use native.Mathlib.Omega.{arith}
use lib.Dec.{T, leb, ltb, ltb→lt, nltb→le, leb→le, le→leb}
use borrow.Author.Tests.{le-leb, lt-leb}
use lib.Ieee.{unlike}
use lib.IntN.{ℤ, pos, negsuc, neg_ℤ, nat_abs, sub_ℕ, ◌+ℤ◌, ◌-ℤ◌, ◌*ℤ◌, *ℤ-negsuc}
use lib.Signed.{le_z, lt_z, lt_z_yes, lt_z_no, clash_ℤ, ◌≤ℤ◌, ◌<ℤ◌}
use Rattle.numbers.specs.Fraction.{signed, above, below}
use Rattle.numbers.proofs.Laws.Ratio.{gap}
use Rattle.numbers.proofs.Laws.Tests.{leb_same}

-- z is split into a − b
pub record IsSplit (z : ℤ) (a b : ℕ) : Type 0 where
  pub cross : above z + b ≡ below z + a

pub own_split : (z : ℤ) → IsSplit z (above z) (below z)
own_split z = record { cross = omega arith }

-- a natural number, and one with a sign
pub pos_split : (a : ℕ) → IsSplit (pos a) a 0
pos_split a = record { cross = omega arith }

pub signed_split : (s : Bool) (a : ℕ) → IsSplit (signed s a) (cond s 0 a) (cond s a 0)
unfolding signed
signed_split false a = pos_split a
signed_split true zero = record { cross = refl }
signed_split true (suc a) = record { cross = omega arith }

-- two are equal, and in order, where the cross sums are
pub same_split : {z w : ℤ} {a b c d : ℕ} → IsSplit z a b → IsSplit w c d → (z ≡ w) ↔ (a + d ≡ c + b)
same_split {z} {w} {a} {b} {c} {d} h k = (λ e. omega (arith, ap above e, ap below e), from z w h.cross k.cross)
  where
    from : (z w : ℤ) → above z + b ≡ below z + a → above w + d ≡ below w + c → a + d ≡ c + b → z ≡ w
    from (pos z) (pos w) h k e = ap pos (omega arith)
    from (pos z) (negsuc w) h k e = absurd (omega arith)
    from (negsuc z) (pos w) h k e = absurd (omega arith)
    from (negsuc z) (negsuc w) h k e = ap negsuc (omega arith)

pub order_test : {z w : ℤ} {a b c d : ℕ} → IsSplit z a b → IsSplit w c d → le_z z w ≡ leb (a + d) (c + b)
order_test {z} {w} {a} {b} {c} {d} h k = go z w h.cross k.cross
  where
    go : (z w : ℤ) → above z + b ≡ below z + a → above w + d ≡ below w + c → le_z z w ≡ leb (a + d) (c + b)
    go (pos z) (pos w) h k = leb_same z w (a + d) (c + b) (λ (l : z ≤ w). omega arith) (λ (l : a + d ≤ c + b). omega arith)
    go (pos z) (negsuc w) h k = sym (lt-leb (a + d) (c + b) (omega arith))
    go (negsuc z) (pos w) h k = sym (le-leb (a + d) (c + b) (omega arith))
    go (negsuc z) (negsuc w) h k = leb_same w z (a + d) (c + b) (λ (l : w ≤ z). omega arith) (λ (l : a + d ≤ c + b). omega arith)

pub order_split : {z w : ℤ} {a b c d : ℕ} → IsSplit z a b → IsSplit w c d → (z ≤ℤ w) ↔ (a + d ≤ c + b)
order_split {z} {w} {a} {b} {c} {d} h k =
    let e = order_test h k in (λ (l : z ≤ℤ w). leb→le (a + d) (c + b) (rw e at l.le), λ l. record { le = rw e (le→leb (a + d) (c + b) l) })

pub strict_split : {z w : ℤ} {a b c d : ℕ} → IsSplit z a b → IsSplit w c d → (z <ℤ w) ↔ (a + d < c + b)
strict_split {z} {w} {a} {b} {c} {d} h k = (λ (l : z <ℤ w). lt_of_not-le (λ (m : c + b ≤ a + d). clash_ℤ l ((order_split k h).1 m)), λ l. go l (lt_z z w) lt_z_yes lt_z_no)
  where
    go : a + d < c + b → (t : Bool) → (T t → z <ℤ w) → (T (not t) → w ≤ℤ z) → z <ℤ w
    go l true less more = less tt
    go l false less more = absurd (let m : c + b ≤ a + d = (order_split k h).0 (more tt) in omega arith)

-- the difference of two natural numbers; the sum, opposite and products of whole ones
pub sub_split : (a b : ℕ) → IsSplit (sub_ℕ a b) a b
sub_split a b = record { cross = go (ltb a b) (ltb→lt a b) (nltb→le a b) }
  where
    go : (t : Bool) → (T t → a < b) → (T (not t) → b ≤ a) → above (cond t (negsuc (b - suc a)) (pos (a - b))) + b ≡ below (cond t (negsuc (b - suc a)) (pos (a - b))) + a
    go true h k = let l : a < b = h tt in omega arith
    go false h k = let l : b ≤ a = k tt in omega arith

pub sum_split : {z w : ℤ} {a b c d : ℕ} → IsSplit z a b → IsSplit w c d → IsSplit (z +ℤ w) (a + c) (b + d)
sum_split {z = pos z} {w = pos w} h k = record { cross = omega arith }
sum_split {z = pos z} {w = negsuc w} h k = record { cross = omega (arith, (sub_split z (suc w)).cross) }
sum_split {z = negsuc z} {w = pos w} h k = record { cross = omega (arith, (sub_split w (suc z)).cross) }
sum_split {z = negsuc z} {w = negsuc w} h k = record { cross = omega arith }

pub opposite_split : {z : ℤ} {a b : ℕ} → IsSplit z a b → IsSplit (neg_ℤ z) b a
opposite_split {z = pos zero} h = record { cross = omega arith }
opposite_split {z = pos (suc z)} h = record { cross = omega arith }
opposite_split {z = negsuc z} h = record { cross = omega arith }

pub times_split : (c : ℕ) {z : ℤ} {a b : ℕ} → IsSplit z a b → IsSplit (z *ℤ pos c) (a * c) (b * c)
times_split c {z = pos z} h = record { cross = omega (arith, ap (λ (n : ℕ). n * c) h.cross) }
times_split c {z = negsuc z} h = opposite_split {z = pos (suc z * c)} (record { cross = omega (arith, ap (λ (n : ℕ). n * c) h.cross) })

pub product_split : {z w : ℤ} {a b c d : ℕ} → IsSplit z a b → IsSplit w c d → IsSplit (z *ℤ w) (a * c + b * d) (a * d + b * c)
product_split {z} {w = pos w} {a} {b} h k =
    record { cross = omega (arith, (times_split w h).cross, ap (λ (n : ℕ). a * n) k.cross, ap (λ (n : ℕ). b * n) k.cross) }
product_split {z} {w = negsuc w} {a} {b} h k = record {
  cross = rw (*ℤ-negsuc z w) (omega (arith, (opposite_split (times_split (suc w) h)).cross, ap (λ (n : ℕ). a * n) k.cross, ap (λ (n : ℕ). b * n) k.cross));
}

-- the magnitude
pub abs_split : {z : ℤ} {a b : ℕ} → IsSplit z a b → nat_abs z ≡ gap a b
abs_split {z = pos z} h = omega arith
abs_split {z = negsuc z} h = omega arith

-- ---- by signs and magnitudes

pub times_times : (z : ℤ) (a b : ℕ) → z *ℤ pos a *ℤ pos b ≡ z *ℤ pos (a * b)
times_times z a b = (same_split (times_split b (times_split a (own_split z))) (times_split (a * b) (own_split z))).1 (omega arith)

pub signed_times : (s : Bool) (a d : ℕ) → signed s a *ℤ pos d ≡ signed s (a * d)
signed_times false a d = (same_split (times_split d (signed_split false a)) (signed_split false (a * d))).1 (omega arith)
signed_times true a d = (same_split (times_split d (signed_split true a)) (signed_split true (a * d))).1 (omega arith)

pub neg_signed : (s : Bool) (a : ℕ) → neg_ℤ (signed s a) ≡ signed (not s) a
neg_signed false a = (same_split (opposite_split (signed_split false a)) (signed_split true a)).1 (omega arith)
neg_signed true a = (same_split (opposite_split (signed_split true a)) (signed_split false a)).1 (omega arith)

pub signed_product : (s t : Bool) (a b : ℕ) → signed s a *ℤ signed t b ≡ signed (unlike s t) (a * b)
signed_product false false a b = (same_split (product_split (signed_split false a) (signed_split false b)) (signed_split false (a * b))).1 (omega arith)
signed_product false true a b = (same_split (product_split (signed_split false a) (signed_split true b)) (signed_split true (a * b))).1 (omega arith)
signed_product true false a b = (same_split (product_split (signed_split true a) (signed_split false b)) (signed_split true (a * b))).1 (omega arith)
signed_product true true a b = (same_split (product_split (signed_split true a) (signed_split true b)) (signed_split false (a * b))).1 (omega arith)

pub same_sign : (s : Bool) (a b : ℕ) → signed s a +ℤ signed s b ≡ signed s (a + b)
same_sign false a b = (same_split (sum_split (signed_split false a) (signed_split false b)) (signed_split false (a + b))).1 (omega arith)
same_sign true a b = (same_split (sum_split (signed_split true a) (signed_split true b)) (signed_split true (a + b))).1 (omega arith)

-- the magnitude of a difference
pub abs_difference : (s : Bool) (a b : ℕ) → nat_abs (signed s a -ℤ signed s b) ≡ gap a b
abs_difference false a b = abs_split (sum_split (signed_split false a) (opposite_split (signed_split false b))) ∙ omega arith
abs_difference true a b = abs_split (sum_split (signed_split true a) (opposite_split (signed_split true b))) ∙ omega arith
