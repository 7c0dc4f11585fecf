-- Whole numbers written i − o, with naturals i and o: the exponents of the laws. Added, subtracted and compared, they are decided among the naturals.
use mathlib.Core.Path.{◌≡◌, refl}
use mathlib.Core.Bool.{Bool, true, false, not, cond}
use Prim.Native.Nat.{ℕ, zero, suc, ◌+◌, ◌-◌, ◌≤◌, ◌<◌}
use native.Mathlib.Omega.{arith}
use lib.Dec.{T, leb, leb→le, nleb→lt}
use lib.Ieee.{minus}
use lib.IntN.{ℤ, pos, negsuc, suc_ℤ, pred_ℤ, ◌+ℤ◌, ◌-ℤ◌}
use lib.Signed.{mag, le_z}
use borrow.Author.Tests.{le-leb, lt-leb}
use Rattle.numbers.specs.Fraction.{above, below}
use Rattle.numbers.proofs.Laws.Splits.{IsSplit, pos_split, same_split, order_test, sum_split, opposite_split}

pub minus_split : (i o : ℕ) → IsSplit (minus i o) i o
minus_split i o = record { cross = go (leb o i) (leb→le o i) (nleb→lt o i) }
  where
    go : (t : Bool) → (T t → o ≤ i) → (T (not t) → i < o) → above (cond t (pos (i - o)) (negsuc (o - suc i))) + o ≡ below (cond t (pos (i - o)) (negsuc (o - suc i))) + i
    go true h k = let l : o ≤ i = h tt in omega arith
    go false h k = let l : i < o = k tt in omega arith

-- what is split into a − b, or into another two with that difference, is i − o
pub split_minus : {z : ℤ} {a b : ℕ} (i o : ℕ) → IsSplit z a b → a + o ≡ i + b → z ≡ minus i o
split_minus i o h e = (same_split h (minus_split i o)).1 e

-- i − o depends on the difference alone
pub minus_same : (i o j p : ℕ) → i + p ≡ j + o → minus i o ≡ minus j p
minus_same i o j p e = split_minus j p (minus_split i o) e

-- i − o where i is no less, and where it is less
pub minus_natural : (i o : ℕ) → o ≤ i → minus i o ≡ pos (i - o)
minus_natural i o h = rw (le-leb o i h)

pub minus_negative : (i o : ℕ) → i < o → minus i o ≡ negsuc (o - suc i)
minus_negative i o h = rw (lt-leb o i h)

-- one less, and one more
pred_split : {z : ℤ} {a b : ℕ} → IsSplit z a b → IsSplit (pred_ℤ z) a (suc b)
pred_split {z = pos zero} h = record { cross = omega arith }
pred_split {z = pos (suc z)} h = record { cross = omega arith }
pred_split {z = negsuc z} h = record { cross = omega arith }

suc_split : {z : ℤ} {a b : ℕ} → IsSplit z a b → IsSplit (suc_ℤ z) (suc a) b
suc_split {z = pos z} h = record { cross = omega arith }
suc_split {z = negsuc zero} h = record { cross = omega arith }
suc_split {z = negsuc (suc z)} h = record { cross = omega arith }

pub pred_minus : (i o : ℕ) → pred_ℤ (minus i o) ≡ minus i (suc o)
pred_minus i o = split_minus i (suc o) (pred_split (minus_split i o)) refl

pub suc_minus : (i o : ℕ) → suc_ℤ (minus i o) ≡ minus (suc i) o
suc_minus i o = split_minus (suc i) o (suc_split (minus_split i o)) refl

-- a natural number added and subtracted, a difference subtracted
pub minus_plus : (i o k : ℕ) → minus i o +ℤ pos k ≡ minus (i + k) o
minus_plus i o k = split_minus (i + k) o (sum_split (minus_split i o) (pos_split k)) (omega arith)

pub minus_minus : (i o j p : ℕ) → minus i o -ℤ minus j p ≡ minus (i + p) (o + j)
minus_minus i o j p = split_minus (i + p) (o + j) (sum_split (minus_split i o) (opposite_split (minus_split j p))) refl

pub minus_less : (i o k : ℕ) → minus i o -ℤ pos k ≡ minus i (o + k)
minus_less i o k = split_minus i (o + k) (sum_split (minus_split i o) (opposite_split (pos_split k))) (omega arith)

pub pos_minus : (a b : ℕ) → pos a -ℤ pos b ≡ minus a b
pos_minus a b = split_minus a b (sum_split (pos_split a) (opposite_split (pos_split b))) (omega arith)

-- two compared
pub minus_order : (i o j p : ℕ) → le_z (minus i o) (minus j p) ≡ leb (i + p) (j + o)
minus_order i o j p = order_test (minus_split i o) (minus_split j p)

-- i − o is from −k to k − 1
pub minus_small : (i o k : ℕ) → i < o + k → o ≤ i + k → mag (minus i o) < k
minus_small i o k a b = go (minus i o) (minus_split i o).cross
  where
    go : (z : ℤ) → above z + o ≡ below z + i → mag z < k
    go (pos z) h = omega arith
    go (negsuc z) h = omega arith
