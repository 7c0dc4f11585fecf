-- A step fails its claim exactly where its task refuses its exact value; so no step fails where every result is given.
use mathlib.Core.Path.{◌≡◌, refl, sym, ap, ◌∙◌}
use mathlib.Core.Bool.{Bool, true, false, not, ◌&&◌, ◌||◌, cond, false≢true}
use mathlib.Core.List.{List, [], ◌∷◌, map}
use Prim.Native.Nat.{ℕ, zero, suc}
use lib.Dec.{eqb}
use lib.IntN.{nat_abs}
use lib.ListN.{get_or}
use Rattle.numbers.specs.Answer.{Outcome, given, refused, checked, judged, claimed, rounded}
use Rattle.numbers.specs.Fraction.{Fraction, value}
use Rattle.numbers.specs.Number.{is_working_exponent}
use Rattle.numbers.specs.Rounding.{exponent_of, round, has_at_most_bits}
use Rattle.numbers.specs.declared.number.Number.{Number}
use Rattle.numbers.specs.declared.number.Number.TheVariants.{Zero, Finite}
use Rattle.numbers.specs.declared.task.Mode.TheVariants.{Trunc}
use Rattle.numbers.specs.declared.task.Task.{Task}
use Rattle.numbers.specs.declared.task.Task.TheVariants.{Round, Exact}
use Rattle.numbers.proofs.Laws.Tests.{never}
use Rattle.steps.specs.Steps.{Term, Expression, of, of_both, Line, lines, line_of, line_of_both, term_of, result_of, worked_out, is_outside, fails_task, fails_of, fails_of_both, line_fails, Fails}
use Rattle.steps.proofs.TableLines.{own_results}

abbrev pub is_refusal : Outcome → Bool
is_refusal (given x) = false
is_refusal (refused k) = true

outside_refused : (x : Number) → is_outside x ≡ is_refusal (checked x)
unfolding is_outside checked
outside_refused Zero = refl
outside_refused (Finite s e S) = go (is_working_exponent e)
  where
    go : (working : Bool) → not working ≡ is_refusal (cond working (given (Finite s e S)) (refused 7))
    go true = refl
    go false = refl

-- what fails a task is what the task refuses
pub fails_refused : (task : Task) (x : Fraction) → fails_task task x ≡ is_refusal (rounded task x)
unfolding fails_task rounded claimed judged
fails_refused (Round rounding) x = outside_refused (round rounding.mode rounding.precision x)
fails_refused (Exact claim) x =
    let a = nat_abs x.numerator in
    let b = x.denominator in
    go (eqb a 0) (is_working_exponent (exponent_of a b)) (has_at_most_bits claim.precision a b)
  where
    go : (none working exact : Bool)
        → not none && (not exact || not working) ≡ is_refusal (cond none (given Zero) (cond working (cond exact (given (round Trunc claim.precision x)) (refused 8)) (refused 7)))
    go true working exact = refl
    go false true true = refl
    go false true false = refl
    go false false true = refl
    go false false false = refl

-- a line whose result is given does not fail
line_holds : (outcome : Term → Outcome) (expression : Expression) (task : Task) (y : Number) → result_of outcome expression task ≡ given y → line_fails outcome expression task ≡ false
unfolding result_of line_fails line_of line_of_both fails_of fails_of_both
line_holds outcome (of exact a) task y h = go (outcome a) h
  where
    go : (r : Outcome) → line_of task exact r ≡ given y → fails_of task exact r ≡ false
    go (given x) h = fails_refused task (exact x) ∙ ap is_refusal h
    go (refused k) h = refl
line_holds outcome (of_both exact a b) task y h = go (outcome a) (outcome b) h
  where
    go : (r s : Outcome) → line_of_both task exact r s ≡ given y → fails_of_both task exact r s ≡ false
    go (given x) (given z) h = fails_refused task (exact (value x) (value z)) ∙ ap is_refusal h
    go (given x) (refused k) h = refl
    go (refused k) s h = refl

lines_hold : (outcome : Term → Outcome) (ls : List Line) (xs : List Number) → map (λ (line : Line). result_of outcome line.expression line.task) ls ≡ map given xs
    → (k : ℕ) → get_or (map (λ (line : Line). line_fails outcome line.expression line.task) ls) k false ≡ false
lines_hold outcome [] xs e k = refl
lines_hold outcome (line ∷ ls) [] e k = never cc
lines_hold outcome (line ∷ ls) (x ∷ xs) e zero = line_holds outcome line.expression line.task x (cc)
lines_hold outcome (line ∷ ls) (x ∷ xs) e (suc k) = lines_hold outcome ls xs (cc) k

-- no step fails where every result is given
pub none_fails : (p d : Number) (task : Task) (xs : List Number) → worked_out p d (lines task) [] ≡ map given xs → (k : ℕ) → Fails p d task k → ⊥
unfolding Fails
none_fails p d task xs are zero h = h
none_fails p d task xs are (suc k) h = false≢true (sym (lines_hold (term_of p d (worked_out p d (lines task) [])) (lines task) xs (own_results p d task ∙ are) k) ∙ h)
