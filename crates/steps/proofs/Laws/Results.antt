-- What a line gives is a working number or a refusal, whatever the operands: every line has a precision from 1 to 64 and an exact value.
use mathlib.Core.Path.{◌≡◌, refl}
use mathlib.Core.Bool.{true}
use mathlib.Core.List.{List, [], ◌∷◌, ◌++◌}
use Prim.Native.Nat.{ℕ, zero, suc}
use lib.ListN.{get_or}
use Rattle.numbers.specs.Answer.{Outcome, given, refused}
use Rattle.numbers.specs.Fraction.{Fraction, IsFraction, value}
use Rattle.numbers.specs.Rounding.{is_precision, precision_of}
use Rattle.numbers.specs.declared.number.Number.{Number}
use Rattle.numbers.specs.declared.task.Task.{Task}
use Rattle.numbers.proofs.Laws.Scaled.{value_fraction}
use Rattle.numbers.proofs.Laws.Fractions.{sum_fraction, difference_fraction, product_fraction}
use Rattle.numbers.proofs.Laws.Refusals.{precision_range}
use Rattle.division.specs.Judgement.{IsTask}
use Rattle.steps.specs.Run.{IsResult}
use Rattle.steps.specs.Steps.{Term, Expression, of, of_both, Line, lines, line_of, line_of_both, result_at, term_of, result_of, worked_out, after_step}
use Rattle.steps.proofs.Laws.Complement.{refined_fraction}
use Rattle.steps.proofs.Laws.Combined.{given_result}
use Rattle.steps.proofs.Laws.SeedStep.{seed_fraction}

-- the value of a line is a fraction
abbrev IsExact : Expression → Type 0
IsExact (of exact a) = (x : Number) → IsFraction (exact x)
IsExact (of_both exact a b) = (x y : Fraction) → IsFraction x → IsFraction y → IsFraction (exact x y)

record IsProper (line : Line) : Type 0 where
  fit : IsTask line.task
  exact : IsExact line.expression

-- each entry of a list
infixr 5 ◌and◌
data Each {A : Type 0} (P : A → Type 0) : List A → Type 0 where
  none : Each P []
  ◌and◌ : {x : A} {xs : List A} → P x → Each P xs → Each P (x ∷ xs)

module _ {A : Type 0} (P : A → Type 0) where
  each_more : (xs : List A) (y : A) → Each P xs → P y → Each P (xs ++ (y ∷ []))
  each_more [] y none k = k and none
  each_more (x ∷ xs) y (h and hs) k = h and each_more xs y hs k

  each_at : (xs : List A) (k : ℕ) (z : A) → P z → Each P xs → P (get_or xs k z)
  each_at [] k z h e = h
  each_at (x ∷ xs) zero z h (e and es) = e
  each_at (x ∷ xs) (suc k) z h (e and es) = each_at xs k z h es

one_result : (task : Task) (exact : Number → Fraction) → ((x : Number) → IsFraction (exact x)) → IsTask task → (a : Outcome) → IsResult (line_of task exact a)
unfolding line_of IsResult
one_result task exact fraction fit (given x) = given_result task (exact x) _ (fraction x) fit refl
one_result task exact fraction fit (refused k) = tt

both_result : (task : Task) (exact : Fraction → Fraction → Fraction) → ((x y : Fraction) → IsFraction x → IsFraction y → IsFraction (exact x y)) → IsTask task
    → (a b : Outcome) → IsResult (line_of_both task exact a b)
unfolding line_of_both IsResult
both_result task exact fraction fit (given x) (given y) =
    given_result task (exact (value x) (value y)) _ (fraction (value x) (value y) (value_fraction x) (value_fraction y)) fit refl
both_result task exact fraction fit (given x) (refused k) = tt
both_result task exact fraction fit (refused k) b = tt

line_result : (outcome : Term → Outcome) (expression : Expression) (task : Task) → IsTask task → IsExact expression → IsResult (result_of outcome expression task)
unfolding result_of
line_result outcome (of exact a) task fit fraction = one_result task exact fraction fit (outcome a)
line_result outcome (of_both exact a b) task fit fraction = both_result task exact fraction fit (outcome a) (outcome b)

each_result : (p d : Number) (ls : List Line) (results : List Outcome) → Each IsProper ls → Each IsResult results → Each IsResult (worked_out p d ls results)
unfolding worked_out
each_result p d [] results proper are = are
each_result p d (line ∷ rest) results (proper and more) are =
    each_result p d rest _ more (each_more IsResult results _ are (line_result (term_of p d results) line.expression line.task proper.fit proper.exact))

-- a line whose precision is in range
proper : {line : Line} → is_precision (precision_of line.task) ≡ true → IsExact line.expression → IsProper line
proper {line} h exact = record { fit = precision_range (precision_of line.task) h; exact = exact }

module _ (task : Task) (fit : IsTask task) where
  all_proper : Each IsProper (lines task)
  unfolding lines is_precision
  all_proper =
      proper refl seed_fraction and proper refl value_fraction
      and proper refl product_fraction and proper refl refined_fraction
      and proper refl product_fraction and proper refl refined_fraction
      and proper refl value_fraction and proper refl difference_fraction and proper refl value_fraction
      -- the digits
      and proper refl value_fraction and proper refl product_fraction
      and proper refl product_fraction and proper refl product_fraction and proper refl difference_fraction and proper refl difference_fraction
      and proper refl value_fraction and proper refl product_fraction
      and proper refl product_fraction and proper refl product_fraction and proper refl difference_fraction and proper refl difference_fraction
      and proper refl value_fraction and proper refl product_fraction
      and proper refl product_fraction and proper refl product_fraction and proper refl difference_fraction and proper refl difference_fraction
      and proper refl value_fraction and proper refl product_fraction
      -- the sums
      and proper refl sum_fraction and proper refl sum_fraction and record { fit = fit; exact = sum_fraction }
      and none

  -- The value after any step is a result.
  pub step_result : (p d : Number) (k : ℕ) → IsResult (after_step p d task k)
  unfolding after_step result_at IsResult
  step_result p d zero = tt
  step_result p d (suc k) = each_at IsResult (worked_out p d (lines task) []) k (refused 6) tt (each_result p d (lines task) [] all_proper none)
