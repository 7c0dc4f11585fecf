-- Exact operations on whole numbers times a power of two: what the product, the difference and the sum are.
use mathlib.Core.Path.{◌≡◌, refl, ap}
use mathlib.Core.Bool.{Bool, true, false, not, cond}
use Prim.Native.Nat.{ℕ, ◌+◌, ◌*◌, ◌^◌, ◌≤◌, ◌<◌}
use native.Mathlib.Decide.{dec_le}
use native.Mathlib.Nat.{lt_of_not-le}
use native.Mathlib.Omega.{arith}
use borrow.Author.Tests.{le-leb, lt-leb}
use lib.Dec.{leb}
use lib.Ieee.{unlike}
use lib.IntN.{ℤ, nat_abs, ◌+ℤ◌}
use lib.Pow.{pow-add}
use Rattle.numbers.specs.Fraction.{Fraction, IsFraction, Equal, signed, is_negative, scaled, sum, difference, product, IsScaled}
use Rattle.numbers.proofs.Laws.Fractions.{signed_equal, sum_fraction, difference_fraction, product_fraction, sum_equal, difference_equal, product_equal}
use Rattle.numbers.proofs.Laws.Pairs.{IsPair, scaled_pair, split_pair, equal_pair, sum_pair, difference_pair, equal_through}
use Rattle.numbers.proofs.Laws.Ratio.{gap}
use Rattle.numbers.proofs.Laws.Scaled.{scaled_fraction}
use Rattle.numbers.proofs.Laws.Splits.{IsSplit, sum_split, signed_split, abs_split, signed_product}

-- an operation that depends on the values alone is worked out on the grid
operated : (exact : Fraction → Fraction → Fraction) → ((x y : Fraction) → IsFraction x → IsFraction y → IsFraction (exact x y))
    → ((x y u v : Fraction) → Equal x u → Equal y v → Equal (exact x y) (exact u v))
    → {x y : Fraction} {r s t : Bool} {L M N i j k o p q : ℕ} → IsScaled x s M i o → IsScaled y t N j p
    → Equal (exact (scaled s M i o) (scaled t N j p)) (scaled r L k q) → IsScaled (exact x y) r L k q
operated exact fractions same {x} {y} {r} {s} {t} {L} {M} {N} {i} {j} {k} {o} {p} {q} h l is =
    let a = scaled s M i o in
    let b = scaled t N j p in
    record {
      positive = fractions x y h.positive l.positive;
      amount =
          equal_through (exact x y) (exact a b) (scaled r L k q) (fractions a b (scaled_fraction s M i o) (scaled_fraction t N j p))
          (same x y a b h.amount l.amount) is;
    }

-- ---- the product: the powers add up

product_is : (s t : Bool) (M N i j o p : ℕ) → Equal (product (scaled s M i o) (scaled t N j p)) (scaled (unlike s t) (M * N) (i + j) (o + p))
unfolding product
product_is s t M N i j o p =
    rw (signed_product s t (M * 2 ^ i) (N * 2 ^ j))
    (signed_equal (unlike s t) (M * 2 ^ i * (N * 2 ^ j)) (2 ^ o * 2 ^ p) (M * N * 2 ^ (i + j)) (2 ^ (o + p)) (rw (pow-add 2 i j, pow-add 2 o p) (omega arith)))

pub product_scaled : {x y : Fraction} {s t : Bool} {M N i j o p : ℕ} → IsScaled x s M i o → IsScaled y t N j p → IsScaled (product x y) (unlike s t) (M * N) (i + j) (o + p)
product_scaled {s = s} {t} {M} {N} {i} {j} {o} {p} h k = operated product product_fraction product_equal h k (product_is s t M N i j o p)

-- ---- the difference of two on one grid

-- the sign of ± (a − b)
abbrev pub less_sign : Bool → ℕ → ℕ → Bool
less_sign s a b = cond (leb b a) s (not s)

less_pair : (s : Bool) (A B i o : ℕ) → IsPair (scaled (less_sign s A B) (gap A B) i o) (cond s (B * 2 ^ i) (A * 2 ^ i)) (cond s (A * 2 ^ i) (B * 2 ^ i)) (2 ^ o)
less_pair s A B i o = record { upper = go (dec_le B A) s; lower = refl }
  where
    go : Dec (B ≤ A) → (s : Bool) → IsSplit (signed (less_sign s A B) (gap A B * 2 ^ i)) (cond s (B * 2 ^ i) (A * 2 ^ i)) (cond s (A * 2 ^ i) (B * 2 ^ i))
    go (yes h) false = rw (le-leb B A h) (record { cross = omega (arith, (signed_split false (gap A B * 2 ^ i)).cross, ap (λ (n : ℕ). n * 2 ^ i) (let e : A ≡ gap A B + B = omega arith in e)) })
    go (yes h) true = rw (le-leb B A h) (record { cross = omega (arith, (signed_split true (gap A B * 2 ^ i)).cross, ap (λ (n : ℕ). n * 2 ^ i) (let e : A ≡ gap A B + B = omega arith in e)) })
    go (no n) false =
        let l : A < B = lt_of_not-le n in
        rw (lt-leb B A l) (record { cross = omega (arith, (signed_split true (gap A B * 2 ^ i)).cross, ap (λ (n : ℕ). n * 2 ^ i) (let e : B ≡ gap A B + A = omega arith in e)) })
    go (no n) true =
        let l : A < B = lt_of_not-le n in
        rw (lt-leb B A l) (record { cross = omega (arith, (signed_split false (gap A B * 2 ^ i)).cross, ap (λ (n : ℕ). n * 2 ^ i) (let e : B ≡ gap A B + A = omega arith in e)) })

difference_is : (s : Bool) (M N i o : ℕ) → Equal (difference (scaled s M i o) (scaled s N i o)) (scaled (less_sign s M N) (gap M N) i o)
difference_is false M N i o = (equal_pair (difference_pair (scaled_pair false M i o) (scaled_pair false N i o)) (less_pair false M N i o)).1 (omega arith)
difference_is true M N i o = (equal_pair (difference_pair (scaled_pair true M i o) (scaled_pair true N i o)) (less_pair true M N i o)).1 (omega arith)

-- ± (A − B), less C, is ± (A − (B + C))
less_twice : (s : Bool) (A B C i o : ℕ) → Equal (difference (scaled (less_sign s A B) (gap A B) i o) (scaled s C i o)) (scaled (less_sign s A (B + C)) (gap A (B + C)) i o)
less_twice false A B C i o = (equal_pair (difference_pair (less_pair false A B i o) (scaled_pair false C i o)) (less_pair false A (B + C) i o)).1 (omega arith)
less_twice true A B C i o = (equal_pair (difference_pair (less_pair true A B i o) (scaled_pair true C i o)) (less_pair true A (B + C) i o)).1 (omega arith)

-- and B added to ± (A − B) is A again
restored_is : (s : Bool) (A B i o : ℕ) → Equal (sum (scaled s B i o) (scaled (less_sign s A B) (gap A B) i o)) (scaled s A i o)
restored_is false A B i o = (equal_pair (sum_pair (scaled_pair false B i o) (less_pair false A B i o)) (scaled_pair false A i o)).1 (omega arith)
restored_is true A B i o = (equal_pair (sum_pair (scaled_pair true B i o) (less_pair true A B i o)) (scaled_pair true A i o)).1 (omega arith)

module _ {x y : Fraction} {s : Bool} {i o : ℕ} where
  pub difference_scaled : {M N : ℕ} → IsScaled x s M i o → IsScaled y s N i o → IsScaled (difference x y) (less_sign s M N) (gap M N) i o
  difference_scaled {M} {N} h k = operated difference difference_fraction difference_equal h k (difference_is s M N i o)

  -- where the first is the larger one
  pub less_scaled : {L M N : ℕ} → N + L ≡ M → IsScaled x s M i o → IsScaled y s N i o → IsScaled (difference x y) s L i o
  less_scaled {L} {M} {N} e h k = rw (le-leb N M (omega arith), (let g : gap M N ≡ L = omega arith in g)) at (difference_scaled h k)

  pub less_twice_scaled : (A B : ℕ) {C : ℕ} → IsScaled x (less_sign s A B) (gap A B) i o → IsScaled y s C i o
      → IsScaled (difference x y) (less_sign s A (B + C)) (gap A (B + C)) i o
  less_twice_scaled A B {C} h k = operated difference difference_fraction difference_equal h k (less_twice s A B C i o)

  pub restored : (A B : ℕ) → IsScaled x s B i o → IsScaled y (less_sign s A B) (gap A B) i o → IsScaled (sum x y) s A i o
  restored A B h k = operated sum sum_fraction sum_equal h k (restored_is s A B i o)

-- ---- the sum of two on one grid

sum_is : (s t : Bool) (M N i o : ℕ) → (r : Bool) × (L : ℕ) × (L ≤ M + N) × Equal (sum (scaled s M i o) (scaled t N i o)) (scaled r L i o)
sum_is s t M N i o = (is_negative k, nat_abs k, most, (equal_pair (sum_pair (scaled_pair s M i o) (scaled_pair t N i o)) (split_pair i o own)).1 (level s t))
  where
    k : ℤ
    k = signed s M +ℤ signed t N

    own : IsSplit k (cond s 0 M + cond t 0 N) (cond s M 0 + cond t N 0)
    own = sum_split (signed_split s M) (signed_split t N)

    both : (s : Bool) (M : ℕ) → cond s 0 M + cond s M 0 ≡ M
    both false M = omega arith
    both true M = omega arith

    most : nat_abs k ≤ M + N
    most = omega (arith, abs_split own, both s M, both t N)

    level : (s t : Bool) → (cond s 0 (M * 2 ^ i) * 2 ^ o + cond t 0 (N * 2 ^ i) * 2 ^ o) * 2 ^ o + (cond s M 0 + cond t N 0) * 2 ^ i * (2 ^ o * 2 ^ o)
        ≡ (cond s 0 M + cond t 0 N) * 2 ^ i * (2 ^ o * 2 ^ o) + (cond s (M * 2 ^ i) 0 * 2 ^ o + cond t (N * 2 ^ i) 0 * 2 ^ o) * 2 ^ o
    level false false = omega arith
    level false true = omega arith
    level true false = omega arith
    level true true = omega arith

pub sum_scaled : {x y : Fraction} {s t : Bool} {M N i o : ℕ} → IsScaled x s M i o → IsScaled y t N i o → (r : Bool) × (L : ℕ) × (L ≤ M + N) × IsScaled (sum x y) r L i o
sum_scaled {s = s} {t} {M} {N} {i} {o} h k =
    let is = sum_is s t M N i o in (is.0, is.1, is.2, operated sum sum_fraction sum_equal h k is.3)
