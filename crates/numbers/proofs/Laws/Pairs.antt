-- Fractions as differences of two natural numbers over a third: their equality, order and sums are then facts of ℕ.
use mathlib.Core.Path.{◌≡◌, refl, sym, ap, ap₂, ◌∙◌}
use mathlib.Core.Bool.{Bool, cond}
use mathlib.Core.Logic.{◌↔◌}
use Prim.Native.Nat.{ℕ, suc, ◌+◌, ◌*◌, ◌^◌, ◌≤◌, ◌<◌}
use native.Mathlib.Nat.{add_comm, eq_of_mul-eq-mul_right, le_of_eq, le_of_mul-le-mul_right, mul-le-mul_right, mul-pos}
use native.Mathlib.Omega.{arith}
use lib.Dec.{leb}
use lib.IntN.{ℤ, pos, negsuc, nat_abs, ◌*ℤ◌, *ℤ-negsuc}
use Rattle.numbers.specs.Fraction.{Fraction, IsFraction, Equal, AtMost, Below, is_at_most, signed, is_negative, above, below, scaled, sum, difference, product, divided_by, quotient}
use Rattle.numbers.proofs.Laws.Splits.{IsSplit, own_split, same_split, order_test, order_split, strict_split, sum_split, opposite_split, times_split, product_split, signed_split, signed_times}
use Rattle.numbers.proofs.Laws.Signs.{signed_abs}

-- a fraction by its parts
abbrev pub fraction : ℤ → ℕ → Fraction
fraction n d = record { numerator = n; denominator = d }

-- x = (a − b) / d
pub record IsPair (x : Fraction) (a b d : ℕ) : Type 0 where
  pub upper : IsSplit x.numerator a b
  pub lower : x.denominator ≡ d

pub own_pair : (x : Fraction) → IsPair x (above x.numerator) (below x.numerator) x.denominator
own_pair x = record { upper = own_split x.numerator; lower = refl }

pub signed_pair : (x : Fraction) (s : Bool) (a : ℕ) → x.numerator ≡ signed s a → IsPair x (cond s 0 a) (cond s a 0) x.denominator
signed_pair x s a e = record { upper = rw e (signed_split s a); lower = refl }

pub fraction_pair : (d : ℕ) {z : ℤ} {a b : ℕ} → IsSplit z a b → IsPair (fraction z d) a b d
fraction_pair d h = record { upper = h; lower = refl }

pub scaled_pair : (s : Bool) (N i o : ℕ) → IsPair (scaled s N i o) (cond s 0 (N * 2 ^ i)) (cond s (N * 2 ^ i) 0) (2 ^ o)
scaled_pair s N i o = signed_pair (scaled s N i o) s (N * 2 ^ i) refl

-- a whole number of grids, by its split
pub split_pair : (i o : ℕ) {k : ℤ} {a b : ℕ} → IsSplit k a b → IsPair (scaled (is_negative k) (nat_abs k) i o) (a * 2 ^ i) (b * 2 ^ i) (2 ^ o)
split_pair i o {k} h = record { upper = rw (← signed_times (is_negative k) (nat_abs k) (2 ^ i), signed_abs k) (times_split (2 ^ i) h); lower = refl }

-- two that have one split and one denominator
pub one_fraction : {x y : Fraction} {a b c d e f : ℕ} → IsPair x a b e → IsPair y c d f → a + d ≡ c + b → e ≡ f → x ≡ y
one_fraction h k same level =
    ap₂ fraction ((same_split h.upper k.upper).1 same) (h.lower ∙ level ∙ sym k.lower)

-- the order, equality, sum, difference and product of (a − b) / d and (p − q) / e
module _ {x y : Fraction} {a b d p q e : ℕ} (h : IsPair x a b d) (k : IsPair y p q e) where
  left : IsSplit (x.numerator *ℤ pos y.denominator) (a * e) (b * e)
  left = rw k.lower (times_split e h.upper)

  right : IsSplit (y.numerator *ℤ pos x.denominator) (p * d) (q * d)
  right = rw h.lower (times_split d k.upper)

  pub at_most_pair : AtMost x y ↔ (a * e + q * d ≤ p * d + b * e)
  unfolding AtMost
  at_most_pair = order_split left right

  pub at_most_test : is_at_most x y ≡ leb (a * e + q * d) (p * d + b * e)
  unfolding is_at_most
  at_most_test = order_test left right

  pub below_pair : Below x y ↔ (a * e + q * d < p * d + b * e)
  unfolding Below
  below_pair = strict_split left right

  pub equal_pair : Equal x y ↔ (a * e + q * d ≡ p * d + b * e)
  unfolding Equal
  equal_pair = same_split left right

  pub sum_pair : IsPair (sum x y) (a * e + p * d) (b * e + q * d) (d * e)
  unfolding sum
  sum_pair = record { upper = sum_split left right; lower = ap₂ ◌*◌ h.lower k.lower }

  pub difference_pair : IsPair (difference x y) (a * e + q * d) (b * e + p * d) (d * e)
  unfolding difference
  difference_pair = record {
    upper = sum_split left (opposite_split right);
    lower = ap₂ ◌*◌ h.lower k.lower;
  }

  pub product_pair : IsPair (product x y) (a * p + b * q) (a * q + b * p) (d * e)
  unfolding product
  product_pair = record { upper = product_split h.upper k.upper; lower = ap₂ ◌*◌ h.lower k.lower }

-- ---- equality and order

pub equal_back : (x y : Fraction) → Equal x y → Equal y x
unfolding Equal
equal_back x y e = sym e

pub equal_through : (x y z : Fraction) → IsFraction y → Equal x y → Equal y z → Equal x z
equal_through x y z y0 e f =
    let h = (equal_pair (own_pair x) (own_pair y)).0 e in
    let k = (equal_pair (own_pair y) (own_pair z)).0 f in
    (equal_pair (own_pair x) (own_pair z)).1
    (eq_of_mul-eq-mul_right y.denominator y0 _ _ (omega (arith, ap (λ (n : ℕ). n * z.denominator) h, ap (λ (n : ℕ). n * x.denominator) k)))

pub equal_at_most : (x y : Fraction) → Equal x y → AtMost x y
equal_at_most x y e = (at_most_pair (own_pair x) (own_pair y)).1 (le_of_eq ((equal_pair (own_pair x) (own_pair y)).0 e))

pub at_most_through : (x y z : Fraction) → IsFraction y → AtMost x y → AtMost y z → AtMost x z
at_most_through x y z y0 e f =
    let h = (at_most_pair (own_pair x) (own_pair y)).0 e in
    let k = (at_most_pair (own_pair y) (own_pair z)).0 f in
    (at_most_pair (own_pair x) (own_pair z)).1
    (le_of_mul-le-mul_right {k = y.denominator} (omega (arith, mul-le-mul_right z.denominator h, mul-le-mul_right x.denominator k)) y0)

-- equal fractions have one place in the order
pub equal_order : (x y z : Fraction) → IsFraction x → IsFraction y → Equal x y → (AtMost x z ↔ AtMost y z) × (AtMost z x ↔ AtMost z y)
equal_order x y z x0 y0 e =
    let there = equal_at_most x y e in
    let back = equal_at_most y x (equal_back x y e) in (
      (at_most_through y x z x0 back, at_most_through x y z y0 there),
      (λ l. at_most_through z x y x0 l there, λ l. at_most_through z y x y0 l back),
    )

-- the order stays with the same added to both
pub at_most_sum : (x y z : Fraction) → IsFraction z → AtMost (sum x z) (sum y z) ↔ AtMost x y
at_most_sum x y z z0 =
    let h = at_most_pair (sum_pair (own_pair x) (own_pair z)) (sum_pair (own_pair y) (own_pair z)) in
    let k = at_most_pair (own_pair x) (own_pair y) in
    let c0 = mul-pos z0 z0 in (
      λ l. k.1 (le_of_mul-le-mul_right {k = z.denominator * z.denominator} (omega (arith, h.0 l)) c0),
      λ l. h.1 (omega (arith, mul-le-mul_right (z.denominator * z.denominator) (k.0 l))),
    )

-- ---- the quotient

-- x = q d + y, and both sides divided by d, which is E / M
divided : (a b c p q f u v g M E : ℕ) → a * (g * M * f) + (v * E * f + q * (g * M)) * c ≡ (u * E * f + p * (g * M)) * c + b * (g * M * f)
    → a * M * (f * E * g) + (q * M * g + v * (f * E)) * (c * E) ≡ (p * M * g + u * (f * E)) * (c * E) + b * M * (f * E * g)
divided a b c p q f u v g M E h =
    widened a q v c f g M E
    ∙ ap (λ (n : ℕ). n * E) h
    ∙ sym (add_comm _ _ ∙ widened b p u c f g M E ∙ ap (λ (n : ℕ). n * E) (add_comm _ _))
  where
    widened : (a q v c f g M E : ℕ) → a * M * (f * E * g) + (q * M * g + v * (f * E)) * (c * E) ≡ (a * (g * M * f) + (v * E * f + q * (g * M)) * c) * E
    widened a q v c f g M E = omega arith

-- If x is q d + y, then x / d is y / d + q.
pub quotient_next : (x y q d : Fraction) → Equal x (sum (product q d) y) → Equal (quotient x d) (sum (quotient y d) q)
unfolding product quotient divided_by
quotient_next x y q d h = go d.numerator h
  where
    M : ℕ
    M = d.denominator

    whole : (z : ℤ) → IsSplit (z *ℤ pos M) (above z * M) (below z * M)
    whole z = times_split M (own_split z)

    go : (z : ℤ) → Equal x (sum (fraction (q.numerator *ℤ z) (q.denominator * M)) y)
        → Equal (divided_by (x.numerator *ℤ pos M) x.denominator z) (sum (divided_by (y.numerator *ℤ pos M) y.denominator z) q)
    go (pos E) h =
        (equal_pair (fraction_pair (x.denominator * E) (whole x.numerator))
        (sum_pair (fraction_pair (y.denominator * E) (whole y.numerator)) (own_pair q))).1
        (divided _ _ _ _ _ _ _ _ _ M E ((equal_pair (own_pair x) (sum_pair (fraction_pair (q.denominator * M) (times_split E (own_split q.numerator))) (own_pair y))).0 h))
    go (negsuc E) h =
        (equal_pair (fraction_pair (x.denominator * suc E) (opposite_split (whole x.numerator)))
        (sum_pair (fraction_pair (y.denominator * suc E) (opposite_split (whole y.numerator))) (own_pair q))).1
        (divided _ _ _ _ _ _ _ _ _ M (suc E)
        (add_comm _ _
        ∙ sym ((equal_pair (own_pair x) (sum_pair (fraction_pair (q.denominator * M) (rw (*ℤ-negsuc q.numerator E) (opposite_split (times_split (suc E) (own_split q.numerator))))) (own_pair y))).0 h)
        ∙ add_comm _ _))
