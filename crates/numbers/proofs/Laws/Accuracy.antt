-- Where a result lies, seen from the true value: what each of the three accuracies means, that values alone count, that a multiple of a grid lies alike
-- against values which no multiple tells apart, and the accuracy of two whole numbers of one grid.
use mathlib.Core.Path.{◌≡◌, refl, sym, ◌∙◌}
use mathlib.Core.Bool.{Bool, true, false, ◌&&◌, cond}
use mathlib.Core.Logic.Iff
use mathlib.Core.Logic.{◌↔◌}
use Prim.Native.Nat.{ℕ, ◌+◌, ◌*◌, ◌^◌, ◌≤◌, ◌<◌}
use native.Mathlib.Nat.{le_antisymm, le_of_lt, le_of_mul-le-mul_right, mul-le-mul_right, mul-pos}
use native.Mathlib.Omega.{arith}
use borrow.Author.Tests.{leb-true, leb-false, le-leb, lt-leb}
use lib.Dec.{leb}
use lib.IntN.{pos, ◌*ℤ◌}
use lib.Pow.{pow_pos}
use lib.Signed.{le_z}
use Rattle.numbers.specs.Accuracy.{accuracy_of}
use Rattle.numbers.specs.Fraction.{Fraction, IsFraction, Equal, AtMost, Below, is_equal, is_at_most, scaled, IsScaled}
use Rattle.numbers.specs.Grid.{Alike}
use Rattle.numbers.specs.Magnitude.{whole_accuracy}
use Rattle.numbers.specs.declared.answer.Accuracy.{Accuracy}
use Rattle.numbers.specs.declared.answer.Accuracy.TheVariants as accuracy
use Rattle.numbers.proofs.Laws.Pairs.{own_pair, scaled_pair, at_most_pair, at_most_test, below_pair, equal_pair, equal_at_most, equal_back, equal_order}
use Rattle.numbers.proofs.Laws.Scaled.{scaled_fraction}
use Rattle.numbers.proofs.Laws.Tests.{leb_same, one_test, never}

-- ---- the tests, and what the accuracies mean

-- the two tests of order tell the accuracy
accuracy_tests : (y x : Fraction) → accuracy_of y x ≡ cond (is_at_most y x) (cond (is_at_most x y) accuracy.Exact accuracy.Below) accuracy.Above
unfolding accuracy_of is_equal is_at_most
accuracy_tests y x = go (le_z (y.numerator *ℤ pos x.denominator) (x.numerator *ℤ pos y.denominator)) (le_z (x.numerator *ℤ pos y.denominator) (y.numerator *ℤ pos x.denominator))
  where
    go : (a b : Bool) → cond (a && b) accuracy.Exact (cond a accuracy.Below accuracy.Above) ≡ cond a (cond b accuracy.Exact accuracy.Below) accuracy.Above
    go true true = refl
    go true false = refl
    go false b = refl

at_most_means : (x y : Fraction) → (is_at_most x y ≡ true) ↔ AtMost x y
at_most_means x y = (
  λ h. (at_most_pair (own_pair x) (own_pair y)).1 (leb-true _ _ (sym (at_most_test (own_pair x) (own_pair y)) ∙ h)),
  λ l. at_most_test (own_pair x) (own_pair y) ∙ le-leb _ _ ((at_most_pair (own_pair x) (own_pair y)).0 l),
)

above_test : (x y : Fraction) → (is_at_most x y ≡ false) ↔ Below y x
above_test x y = (
  λ h. (below_pair (own_pair y) (own_pair x)).1 (leb-false _ _ (sym (at_most_test (own_pair x) (own_pair y)) ∙ h)),
  λ l. at_most_test (own_pair x) (own_pair y) ∙ lt-leb _ _ ((below_pair (own_pair y) (own_pair x)).0 l),
)

module _ (y x : Fraction) where
  tests : {a : Accuracy} → accuracy_of y x ≡ a → cond (is_at_most y x) (cond (is_at_most x y) accuracy.Exact accuracy.Below) accuracy.Above ≡ a
  tests h = sym (accuracy_tests y x) ∙ h

  -- the result y lies below the true value x
  pub below_means : (accuracy_of y x ≡ accuracy.Below) ↔ Below y x
  below_means = (
    λ h. (above_test x y).0 (go (is_at_most y x) (is_at_most x y) (tests h)),
    λ l. rw (accuracy_tests y x, below_at_most l, (above_test x y).1 l),
  )
    where
      go : (a b : Bool) → cond a (cond b accuracy.Exact accuracy.Below) accuracy.Above ≡ accuracy.Below → b ≡ false
      go true true h = never cc
      go true false h = refl
      go false b h = never cc

      below_at_most : Below y x → is_at_most y x ≡ true
      below_at_most l = at_most_test (own_pair y) (own_pair x) ∙ le-leb _ _ (le_of_lt ((below_pair (own_pair y) (own_pair x)).0 l))

  -- it equals it
  pub exact_means : (accuracy_of y x ≡ accuracy.Exact) ↔ Equal y x
  exact_means = (
    λ h. let both = go (is_at_most y x) (is_at_most x y) (tests h) in
        (equal_pair (own_pair y) (own_pair x)).1
        (le_antisymm ((at_most_pair (own_pair y) (own_pair x)).0 ((at_most_means y x).0 both.0)) ((at_most_pair (own_pair x) (own_pair y)).0 ((at_most_means x y).0 both.1))),
    λ e. rw (accuracy_tests y x, (at_most_means y x).1 (equal_at_most y x e), (at_most_means x y).1 (equal_at_most x y (equal_back y x e))),
  )
    where
      go : (a b : Bool) → cond a (cond b accuracy.Exact accuracy.Below) accuracy.Above ≡ accuracy.Exact → (a ≡ true) × (b ≡ true)
      go true true h = (refl, refl)
      go true false h = never cc
      go false b h = never cc

  -- it lies above
  pub above_means : (accuracy_of y x ≡ accuracy.Above) ↔ Below x y
  above_means = (λ h. (above_test y x).0 (go (is_at_most y x) (is_at_most x y) (tests h)), λ l. rw (accuracy_tests y x, (above_test y x).1 l))
    where
      go : (a b : Bool) → cond a (cond b accuracy.Exact accuracy.Below) accuracy.Above ≡ accuracy.Above → a ≡ false
      go true true h = never cc
      go true false h = never cc
      go false b h = refl

-- ---- one accuracy

-- the order of two pairs decides
same_accuracy : (y x u v : Fraction) → (AtMost y x ↔ AtMost u v) → (AtMost x y ↔ AtMost v u) → accuracy_of y x ≡ accuracy_of u v
same_accuracy y x u v low high = rw (accuracy_tests y x, accuracy_tests u v, same_test y x u v low, same_test x y v u high)
  where
    same_test : (a b c d : Fraction) → (AtMost a b ↔ AtMost c d) → is_at_most a b ≡ is_at_most c d
    same_test a b c d order =
        one_test (is_at_most a b) (is_at_most c d) (λ h. (at_most_means c d).1 (order.0 ((at_most_means a b).0 h))) (λ h. (at_most_means a b).1 (order.1 ((at_most_means c d).0 h)))

-- Only the values count.
pub accuracy_equal : (y u x v : Fraction) → IsFraction y → IsFraction u → IsFraction x → IsFraction v → Equal y u → Equal x v → accuracy_of y x ≡ accuracy_of u v
accuracy_equal y u x v y0 u0 x0 v0 e f =
    same_accuracy y x u v
    (Iff.trans (equal_order y u x y0 u0 e).0 (equal_order x v u x0 v0 f).1)
    (Iff.trans (equal_order y u x y0 u0 e).1 (equal_order x v u x0 v0 f).0)

-- A multiple of a grid lies alike against two values that no multiple tells apart.
pub accuracy_alike : (i o : ℕ) (y x u : Fraction) {s : Bool} {N : ℕ} → IsScaled y s N i o → Alike i o x u → accuracy_of y x ≡ accuracy_of y u
unfolding Alike
accuracy_alike i o y x u {s} {N} h alike =
    same_accuracy y x y u
    (Iff.trans (order x).0 (Iff.trans (alike s N).0 (Iff.symm (order u).0)))
    (Iff.trans (order x).1 (Iff.trans (alike s N).1 (Iff.symm (order u).1)))
  where
    order : (z : Fraction) → (AtMost y z ↔ AtMost (scaled s N i o) z) × (AtMost z y ↔ AtMost z (scaled s N i o))
    order z = equal_order y (scaled s N i o) z h.positive (scaled_fraction s N i o) h.amount

-- ---- whole numbers of one grid

-- a and b are M and N grids over one denominator
grids_order : (a b M N i o : ℕ) → a ≡ M * 2 ^ i * 2 ^ o → b ≡ N * 2 ^ i * 2 ^ o → leb a b ≡ leb M N
grids_order a b M N i o e f =
    leb_same a b M N (λ (l : a ≤ b). le_of_mul-le-mul_right {k = 2 ^ i * 2 ^ o} (omega arith) (mul-pos (pow_pos i) (pow_pos o)))
    (λ (l : M ≤ N). omega (arith, mul-le-mul_right (2 ^ i * 2 ^ o) l))

grids_test : (s : Bool) (B A i o : ℕ) → is_at_most (scaled s B i o) (scaled s A i o) ≡ cond s (leb A B) (leb B A)
grids_test false B A i o =
    at_most_test (scaled_pair false B i o) (scaled_pair false A i o)
    ∙ grids_order (B * 2 ^ i * 2 ^ o + 0 * 2 ^ o) (A * 2 ^ i * 2 ^ o + 0 * 2 ^ o) B A i o (omega arith) (omega arith)
grids_test true B A i o =
    at_most_test (scaled_pair true B i o) (scaled_pair true A i o)
    ∙ grids_order (0 * 2 ^ o + A * 2 ^ i * 2 ^ o) (0 * 2 ^ o + B * 2 ^ i * 2 ^ o) A B i o (omega arith) (omega arith)

accuracy_grids : (s : Bool) (B A i o : ℕ) → accuracy_of (scaled s B i o) (scaled s A i o) ≡ whole_accuracy s B A
unfolding whole_accuracy
accuracy_grids false B A i o = rw (accuracy_tests (scaled false B i o) (scaled false A i o), grids_test false B A i o, grids_test false A B i o)
accuracy_grids true B A i o = rw (accuracy_tests (scaled true B i o) (scaled true A i o), grids_test true B A i o, grids_test true A B i o)

pub accuracy_scaled : {y x : Fraction} {s : Bool} {B A i o : ℕ} → IsScaled y s B i o → IsScaled x s A i o → accuracy_of y x ≡ whole_accuracy s B A
accuracy_scaled {y} {x} {s} {B} {A} {i} {o} h k =
    accuracy_equal y (scaled s B i o) x (scaled s A i o) h.positive (scaled_fraction s B i o) k.positive (scaled_fraction s A i o) h.amount k.amount
    ∙ accuracy_grids s B A i o

-- ± B against ± A, by their order
module _ (s : Bool) (B A : ℕ) where
  pub whole_exact : B ≡ A → whole_accuracy s B A ≡ accuracy.Exact
  unfolding whole_accuracy
  whole_exact e = go s (le-leb B A (omega arith)) (le-leb A B (omega arith))
    where
      go : (s : Bool) → leb B A ≡ true → leb A B ≡ true → whole_accuracy s B A ≡ accuracy.Exact
      go false h k = rw (h, k)
      go true h k = rw (k, h)

  pub whole_less : B < A → whole_accuracy s B A ≡ cond s accuracy.Above accuracy.Below
  unfolding whole_accuracy
  whole_less l = go s (le-leb B A (omega arith)) (lt-leb A B l)
    where
      go : (s : Bool) → leb B A ≡ true → leb A B ≡ false → whole_accuracy s B A ≡ cond s accuracy.Above accuracy.Below
      go false h k = rw (h, k)
      go true h k = rw k

  pub whole_more : A < B → whole_accuracy s B A ≡ cond s accuracy.Below accuracy.Above
  unfolding whole_accuracy
  whole_more l = go s (lt-leb B A l) (le-leb A B (omega arith))
    where
      go : (s : Bool) → leb B A ≡ false → leb A B ≡ true → whole_accuracy s B A ≡ cond s accuracy.Below accuracy.Above
      go false h k = rw h
      go true h k = rw (k, h)
