-- A sum of exact fractions does not depend on their order, nor on how they are grouped.
use mathlib.Core.Path.{◌≡◌, refl, sym, ap, ◌∙◌}
use mathlib.Core.List.{List, [], ◌∷◌, ◌++◌}
use Rattle.numbers.specs.Fraction.{Fraction, sum}
use Rattle.numbers.proofs.Laws.Fractions.{sum_swap, sum_zero, sum_grouped}
use Rattle.depot.specs.Figures.{whole}
use Rattle.depot.specs.Book.{exact_sum}

-- the same fractions in another order: neighbours changed places, as often as need be
pub data Reordered : List Fraction → List Fraction → Type 0 where
  same : (xs : List Fraction) → Reordered xs xs
  after : (x : Fraction) {xs ys : List Fraction} → Reordered xs ys → Reordered (x ∷ xs) (x ∷ ys)
  swapped : (x y : Fraction) (xs : List Fraction) → Reordered (x ∷ (y ∷ xs)) (y ∷ (x ∷ xs))
  then : {xs ys zs : List Fraction} → Reordered xs ys → Reordered ys zs → Reordered xs zs

pub sum_order : {xs ys : List Fraction} → Reordered xs ys → exact_sum xs ≡ exact_sum ys
unfolding exact_sum
sum_order (same xs) = refl
sum_order (after x r) = ap (sum x) (sum_order r)
sum_order (swapped x y xs) = rw (← sum_grouped x y (exact_sum xs), sum_swap x y) (sum_grouped y x (exact_sum xs))
sum_order (then r s) = sum_order r ∙ sum_order s

-- the sum of one, and of two lists
pub sum_one : (x : Fraction) → exact_sum (x ∷ []) ≡ x
unfolding exact_sum whole
sum_one x = sum_swap x (whole 0) ∙ sum_zero x

pub sum_append : (xs ys : List Fraction) → exact_sum (xs ++ ys) ≡ sum (exact_sum xs) (exact_sum ys)
unfolding exact_sum whole
sum_append [] ys = sym (sum_zero (exact_sum ys))
sum_append (x ∷ xs) ys = ap (sum x) (sum_append xs ys) ∙ sym (sum_grouped x (exact_sum xs) (exact_sum ys))
