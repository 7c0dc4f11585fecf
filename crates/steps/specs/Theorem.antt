-- What the theorem on the steps and the quotient says; proofs/Theorem has its proof.
use Rattle.std.specs.Prelude.{◌≡◌, true, false, ℕ, ◌^◌, ◌≤◌, pos, Ok}
use Rattle.std.specs.declared.result.Result.{Result}
use Rattle.refusals.specs.declared.Refusal.{Refusal}
use Rattle.numbers.specs.Number.{is_working, is_admissible}
use Rattle.numbers.specs.Fraction.{Fraction, Equal, Below, value, sum, difference, product, quotient, magnitude}
use Rattle.numbers.specs.Rounding.{round, by_mode, task_of}
use Rattle.numbers.specs.Accuracy.{accuracy_of, marked, marked_answer}
use Rattle.numbers.specs.Answer.{Outcome, given, refused, answer_outcome}
use Rattle.numbers.specs.declared.answer.Rounded.{Rounded}
use Rattle.numbers.specs.declared.number.Number.{Number}
use Rattle.numbers.specs.declared.task.Mode.{Mode}
use Rattle.division.specs.Judgement.{IsTaken}
use Rattle.division.specs.Quotient.{is_zero, quotient_of}
use Rattle.steps.specs.Steps.{seed, after_step, Fails}
use Rattle.steps.specs.Wanted.{step_of}

-- x differs from 1 "by less than 2^−8 + 2^−9"
abbrev pub IsNearOne : Fraction → Type 0
IsNearOne x =
    Below (magnitude (difference x (record { numerator = pos 1; denominator = 1 })))
    (sum (record { numerator = pos 1; denominator = 2 ^ 8 }) (record { numerator = pos 1; denominator = 2 ^ 9 }))

-- what holds of the thirty-two steps of p / d in a mode and a precision
pub record IsDivided (p d : Number) (mode : Mode) (n : ℕ) : Type 0 where
  -- step 1 is the seed, and "seed × d differs from 1 by less than 2^−8 + 2^−9"
  pub seed_given : (x : Number) × (after_step p d (by_mode mode n) 1 ≡ given x) × Equal (value x) (seed d)
  pub seed_near : IsNearOne (product (seed d) (value d))
  -- no step fails its claim: each has a value, and its exponent is working
  pub no_step_fails : (k : ℕ) → Fails p d (by_mode mode n) k → ⊥
  pub every_step_given : (k : ℕ) → 1 ≤ k → k ≤ 32 → (x : Number) × (after_step p d (by_mode mode n) k ≡ given x) × (is_working x ≡ true)
  -- step 32 is the exact quotient rounded once
  pub rounded_once : after_step p d (by_mode mode n) 32 ≡ given (round mode n (quotient (value p) (value d)))

-- What the two entries answer then, by their definitions and in any answer r that meets the promise: a number, and no refusal.
pub record IsAnswered (p d : Number) (code n : ℕ) : Type 0 where
  -- the value of the table after every step
  pub step_given : (k : ℕ) → 1 ≤ k → k ≤ 32
      → (x : Number) × (after_step p d (task_of code n) k ≡ given x) × (step_of p d code n k ≡ given x) × ((r : Result Number Refusal) → answer_outcome r ≡ step_of p d code n k → r ≡ Ok x)
  -- the exact quotient rounded once, by the mode that the code names, with where that lies against it
  pub quotient_given :
      let x = quotient (value p) (value d) in
      (mode : Mode) × (task_of code n ≡ by_mode mode n) × (quotient_of p d code n ≡ given (round mode n x))
      × ((r : Result Rounded Refusal) → marked_answer r ≡ marked x (quotient_of p d code n) → r ≡ Ok (record { number = round mode n x; accuracy = accuracy_of (value (round mode n x)) x }))

-- a working number, or one of the refusals up to `last`: "7 and 8 never leave a division"
unfoldable pub IsAnswer : ℕ → Outcome → Type 0
IsAnswer last (given x) = is_working x ≡ true
IsAnswer last (refused k) = (1 ≤ k) × (k ≤ last)

-- The theorem, whole.
pub record Division : Type 0 where
  -- for every admissible p, zero included, every admissible d but zero, the six modes and n from 1 to 64
  pub joined : (p d : Number) (mode : Mode) (n : ℕ) → is_admissible p ≡ true → is_admissible d ≡ true → is_zero d ≡ false → 1 ≤ n → n ≤ 64 → IsDivided p d mode n
  -- the same in terms of the entries, by the codes 0 to 5
  pub answered : (p d : Number) (code n : ℕ) → IsTaken p d code n → IsAnswered p d code n
  -- on any operands and codes: step 32 answers what the quotient does, and 7 and 8 are never answered
  pub last_is_quotient : (p d : Number) (code n : ℕ) → step_of p d code n 32 ≡ quotient_of p d code n
  pub step_answers : (p d : Number) (code n k : ℕ) → IsAnswer 6 (step_of p d code n k)
  pub quotient_answers : (p d : Number) (code n : ℕ) → IsAnswer 5 (quotient_of p d code n)
