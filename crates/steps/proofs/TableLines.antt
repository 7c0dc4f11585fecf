-- The lines of the table, each as an equation between the values after its steps. They hold by working out the list.
use mathlib.Core.Path.{◌≡◌, refl}
use mathlib.Core.List.{[], ◌∷◌, ◌++◌, map}
use Prim.Native.Nat.{ℕ}
use Rattle.numbers.specs.Fraction.{value, difference, product}
use Rattle.numbers.specs.Answer.{Outcome, given, rounded}
use Rattle.numbers.specs.Rounding.{by_mode, claim}
use Rattle.numbers.specs.declared.number.Number.{Number}
use Rattle.numbers.specs.declared.task.Mode.TheVariants.{Trunc, Away}
use Rattle.numbers.specs.declared.task.Task.{Task}
use Rattle.steps.specs.Run.{digit_of, less_of, steps_of, digit_steps, sum_steps}
use Rattle.steps.specs.Steps.{seed, refined, Line, lines, line_of, line_of_both, result_at, term_of, result_of, worked_out, after_step}

module _ (p d : Number) (task : Task) where
  abbrev at : ℕ → Outcome
  at k = after_step p d task k

  pub line_1 : at 1 ≡ rounded (claim 8) (seed d)
  unfolding after_step worked_out lines result_at term_of result_of line_of
  line_1 = refl

  pub line_2 : at 2 ≡ line_of (by_mode Away 32) value (given d)
  unfolding after_step worked_out lines result_at term_of result_of
  line_2 = refl

  pub line_3 : at 3 ≡ line_of_both (by_mode Away 32) product (at 1) (at 2)
  unfolding after_step worked_out lines result_at term_of result_of
  line_3 = refl

  pub line_4 : at 4 ≡ line_of_both (by_mode Trunc 32) refined (at 1) (at 3)
  unfolding after_step worked_out lines result_at term_of result_of
  line_4 = refl

  pub line_5 : at 5 ≡ line_of_both (by_mode Away 32) product (at 4) (at 2)
  unfolding after_step worked_out lines result_at term_of result_of
  line_5 = refl

  pub line_6 : at 6 ≡ line_of_both (by_mode Trunc 32) refined (at 4) (at 5)
  unfolding after_step worked_out lines result_at term_of result_of
  line_6 = refl

  pub line_7 : at 7 ≡ line_of (by_mode Trunc 32) value (given d)
  unfolding after_step worked_out lines result_at term_of result_of
  line_7 = refl

  pub line_8 : at 8 ≡ line_of_both (claim 32) difference (given d) (at 7)
  unfolding after_step worked_out lines result_at term_of result_of
  line_8 = refl

  pub line_9 : at 9 ≡ line_of (claim 64) value (given p)
  unfolding after_step worked_out lines result_at term_of result_of
  line_9 = refl

  -- steps 10 to 15, 16 to 21 and 22 to 27: a digit and the remainder after it
  pub first_digit_lines : digit_steps (at 9) (at 6) (at 7) (at 8) ≡ at 10 ∷ at 11 ∷ at 12 ∷ at 13 ∷ at 14 ∷ at 15 ∷ []
  unfolding after_step worked_out lines result_at term_of result_of steps_of digit_of less_of
  first_digit_lines = refl

  pub second_digit_lines : digit_steps (at 15) (at 6) (at 7) (at 8) ≡ at 16 ∷ at 17 ∷ at 18 ∷ at 19 ∷ at 20 ∷ at 21 ∷ []
  unfolding after_step worked_out lines result_at term_of result_of steps_of digit_of less_of
  second_digit_lines = refl

  pub third_digit_lines : digit_steps (at 21) (at 6) (at 7) (at 8) ≡ at 22 ∷ at 23 ∷ at 24 ∷ at 25 ∷ at 26 ∷ at 27 ∷ []
  unfolding after_step worked_out lines result_at term_of result_of steps_of digit_of less_of
  third_digit_lines = refl

  -- steps 28 and 29, the last digit
  pub line_28 : at 28 ≡ line_of (by_mode Trunc 32) value (at 27)
  unfolding after_step worked_out lines result_at term_of result_of
  line_28 = refl

  pub line_29 : at 29 ≡ digit_of (by_mode Trunc 24) (at 27) (at 6)
  unfolding after_step worked_out lines result_at term_of result_of digit_of
  line_29 = refl

  -- steps 30 to 32
  pub sum_lines : sum_steps task (at 11) (at 17) (at 23) (at 29) ≡ at 30 ∷ at 31 ∷ at 32 ∷ []
  unfolding after_step worked_out lines result_at term_of result_of sum_steps
  sum_lines = refl

  -- the results in their order
  pub all_lines : worked_out p d (lines task) []
      ≡ at 1 ∷ at 2 ∷ at 3 ∷ at 4 ∷ at 5 ∷ at 6 ∷ at 7 ∷ at 8 ∷ at 9 ∷ digit_steps (at 9) (at 6) (at 7) (at 8)
      ++ digit_steps (at 15) (at 6) (at 7) (at 8) ++ digit_steps (at 21) (at 6) (at 7) (at 8)
      ++ at 28 ∷ at 29 ∷ sum_steps task (at 11) (at 17) (at 23) (at 29)
  unfolding after_step worked_out lines result_at term_of result_of steps_of digit_of less_of sum_steps
  all_lines = refl

  -- the results are those of the lines on the results themselves
  pub own_results : map (λ (line : Line). result_of (term_of p d (worked_out p d (lines task) [])) line.expression line.task) (lines task) ≡ worked_out p d (lines task) []
  unfolding worked_out lines result_at term_of result_of
  own_results = refl
