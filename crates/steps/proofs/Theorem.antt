-- The theorem that joins the steps to the quotient (`division`, at the end), from the laws of the steps.
use mathlib.Core.Path.{◌≡◌, refl, sym, subst, ap, ◌∙◌}
use mathlib.Core.Bool.{Bool, true, false, not, cond, false≢true}
use Prim.Native.Nat.{ℕ, ◌≤◌}
use native.Mathlib.Omega.{arith}
use borrow.Author.Tests.{ltb-false, le-leb}
use lib.Dec.{ltb, lit≤}
use lib.Ieee.{minus}
use lib.IntN.{ℤ}
use Rattle.std.specs.Prelude.{Ok, Err}
use Rattle.std.specs.declared.result.Result.{Result}
use Rattle.refusals.specs.Row.{row_number}
use Rattle.refusals.specs.declared.Refusal.{Refusal}
use Rattle.numbers.specs.Biased.{bias}
use Rattle.numbers.specs.Accuracy.{accuracy_of, marked, marked_answer}
use Rattle.numbers.specs.Answer.{Outcome, given, refused, rounded, answer_outcome, unless_unknown, unless_unfit}
use Rattle.numbers.specs.Fraction.{value, quotient}
use Rattle.numbers.specs.Number.{is_working, is_admissible}
use Rattle.numbers.specs.Rounding.{round, by_mode, task_of, is_precision}
use Rattle.numbers.specs.declared.answer.Rounded.{Rounded}
use Rattle.numbers.specs.declared.number.Number.{Number}
use Rattle.numbers.specs.declared.number.Number.TheVariants.{Zero, Finite}
use Rattle.numbers.specs.declared.task.Mode.{Mode}
use Rattle.numbers.proofs.Laws.Fits.{given_round, working_checked}
use Rattle.numbers.proofs.Laws.Marked.{given_answer}
use Rattle.numbers.proofs.Laws.Refusals.{precision_range, mode_of_is}
use Rattle.numbers.proofs.Laws.Scaled.{equal_scaled}
use Rattle.numbers.proofs.Laws.Tests.{never}
use Rattle.division.specs.Quotient.{is_zero, unless_indivisible, quotient_of}
use Rattle.division.specs.Judgement.{IsTaken}
use Rattle.division.proofs.Laws.Admissible.{admissible_parts}
use Rattle.division.proofs.Laws.Divisible.{taken, quotient_taken}
use Rattle.division.proofs.Laws.Range.{InRange, lowest_admissible}
use Rattle.steps.specs.Steps.{after_step}
use Rattle.steps.specs.Theorem.{IsDivided, IsAnswered, IsAnswer, Division}
use Rattle.steps.specs.Wanted.{is_step, step_of}
use Rattle.steps.proofs.Laws.Divided.{last_step_is, no_step_fails, step_given}
use Rattle.steps.proofs.Laws.Run.{step_range}
use Rattle.steps.proofs.Laws.Combined.{as_given}
use Rattle.steps.proofs.Laws.Results.{step_result}
use Rattle.steps.proofs.Laws.SeedStep.{seed_scaled, seed_step, seed_rule}
use Rattle.steps.proofs.TableLines.{line_1}

divided : (s : Bool) (b D : ℕ) → InRange lowest_admissible b D → (p : Number) (mode : Mode) (n : ℕ) → is_admissible p ≡ true → 1 ≤ n → n ≤ 64 → IsDivided p (Finite s (minus b bias) D) mode n
divided s b D range p mode n fit n0 n1 =
    let d = Finite s (minus b bias) D in
    let first = seed_step s b D range in
    let final = step_given s b D range p fit mode n n0 n1 32 (lit≤ tt) (lit≤ tt) in
    record {
      seed_given = (first.number, line_1 p d (by_mode mode n) ∙ first.step, equal_scaled first.amount (seed_scaled s b D));
      seed_near = seed_rule s (minus b bias) D range.top range.word;
      no_step_fails = no_step_fails s b D range p fit mode n n0 n1;
      every_step_given = λ (k : ℕ) (k0 : 1 ≤ k) (k1 : k ≤ 32).
          let x = step_given s b D range p fit mode n n0 n1 k k0 k1 in
          (x.0, x.1, as_given (after_step p d (by_mode mode n) k) x.0 x.1 (step_result (by_mode mode n) (n0, n1) p d k));
      rounded_once = final.1 ∙ ap given (given_round mode n (quotient (value p) (value d)) final.0 (sym (last_step_is s b D range p fit mode n n0 n1) ∙ final.1));
    }

-- no step fails its claim, and step 32 is the exact quotient rounded once
joined : (p d : Number) (mode : Mode) (n : ℕ) → is_admissible p ≡ true → is_admissible d ≡ true → is_zero d ≡ false → 1 ≤ n → n ≤ 64 → IsDivided p d mode n
unfolding is_zero
joined p Zero mode n fit fit' nonzero n0 n1 = absurd (false≢true (sym nonzero))
joined p (Finite s e S) mode n fit fit' nonzero n0 n1 =
    let a = admissible_parts (Finite s e S) fit' in
    subst (λ (z : ℤ). IsDivided p (Finite s z S) mode n) (sym a.1) (divided s a.0 S a.2 p mode n fit n0 n1)

-- ---- the two entries

-- two answers that are related where no row from 1 to 5 applies are related behind these rows
unless_related : (R : Outcome → Outcome → Type 0) (p d : Number) (code n : ℕ) (a b : Outcome) → ((k : ℕ) → 1 ≤ k → k ≤ 5 → R (refused k) (refused k))
    → (IsTaken p d code n → R a b) → R (unless_indivisible p d code n a) (unless_indivisible p d code n b)
unfolding unless_indivisible unless_unknown unless_unfit
unless_related R p d code n a b refusals answers = go (ltb 5 code) (is_precision n) (is_admissible p) (is_admissible d) (is_zero d) refl refl refl refl refl
  where
    rows : Bool → Bool → Bool → Bool → Bool → Outcome → Outcome
    rows high precise first second none x =
        cond high (refused 1) (cond (not precise) (refused 2) (cond (not first) (refused 3) (cond (not second) (refused 4) (cond none (refused 5) x))))

    go : (high precise first second none : Bool) → ltb 5 code ≡ high → is_precision n ≡ precise → is_admissible p ≡ first → is_admissible d ≡ second → is_zero d ≡ none
        → R (rows high precise first second none a) (rows high precise first second none b)
    go true precise first second none e f g h k = refusals 1 (lit≤ tt) (lit≤ tt)
    go false false first second none e f g h k = refusals 2 (lit≤ tt) (lit≤ tt)
    go false true false second none e f g h k = refusals 3 (lit≤ tt) (lit≤ tt)
    go false true true false none e f g h k = refusals 4 (lit≤ tt) (lit≤ tt)
    go false true true true true e f g h k = refusals 5 (lit≤ tt) (lit≤ tt)
    go false true true true false e f g h k = answers (record { mode = ltb-false 5 code e; precise = precision_range n f; dividend = g; divisor = h; nonzero = k })

module _ (p d : Number) (code n : ℕ) where
  coded : IsTaken p d code n → (mode : Mode) × (task_of code n ≡ by_mode mode n) × IsDivided p d mode n
  coded is =
      let m = mode_of_is code n is.mode in
      (m.0, m.1, joined p d m.0 n is.dividend is.divisor is.nonzero is.precise.0 is.precise.1)

  -- what a task gives of the quotient is what step 32 gives: the number is working, so no row refuses it
  coded_once : IsTaken p d code n → after_step p d (task_of code n) 32 ≡ rounded (task_of code n) (quotient (value p) (value d))
  unfolding rounded
  coded_once is =
      let m = coded is in
      let x = m.2.every_step_given 32 (lit≤ tt) (lit≤ tt) in
      let same : x.0 ≡ round m.0 n (quotient (value p) (value d)) = let both = sym x.1 ∙ m.2.rounded_once in cc in
      rw m.1 (m.2.rounded_once ∙ sym (working_checked (round m.0 n (quotient (value p) (value d))) (subst (λ (z : Number). is_working z ≡ true) same x.2)))

  coded_answer : (last k : ℕ) → IsTaken p d code n → 1 ≤ k → k ≤ 32 → IsAnswer last (after_step p d (task_of code n) k)
  unfolding IsAnswer
  coded_answer last k is k0 k1 =
      let m = coded is in
      let x = m.2.every_step_given k k0 k1 in
      rw (m.1, x.1) x.2

  -- On any operands and codes step 32 is the quotient, refusals included.
  pub last_is_quotient : step_of p d code n 32 ≡ quotient_of p d code n
  unfolding step_of quotient_of is_step
  last_is_quotient =
      unless_related ◌≡◌ p d code n (after_step p d (task_of code n) 32) (rounded (task_of code n) (quotient (value p) (value d)))
      (λ (j : ℕ) (l : 1 ≤ j) (h : j ≤ 5). refl) coded_once

  pub step_answers : (k : ℕ) → IsAnswer 6 (step_of p d code n k)
  unfolding IsAnswer step_of
  step_answers k =
      unless_related (λ (x y : Outcome). IsAnswer 6 x) p d code n (answer (is_step k)) (answer (is_step k)) (λ (j : ℕ) (l : 1 ≤ j) (h : j ≤ 5). (l, omega arith))
      (λ (is : IsTaken p d code n). wanted is (is_step k) refl)
    where
      answer : Bool → Outcome
      answer within = cond (not within) (refused 6) (after_step p d (task_of code n) k)

      wanted : IsTaken p d code n → (within : Bool) → is_step k ≡ within → IsAnswer 6 (answer within)
      wanted is true e = let range = step_range k e in coded_answer 6 k is range.0 range.1
      wanted is false e = (lit≤ tt, lit≤ tt)

  pub quotient_answers : IsAnswer 5 (quotient_of p d code n)
  unfolding IsAnswer quotient_of
  quotient_answers =
      let answer = rounded (task_of code n) (quotient (value p) (value d)) in
      unless_related (λ (x y : Outcome). IsAnswer 5 x) p d code n answer answer (λ (j : ℕ) (l : 1 ≤ j) (h : j ≤ 5). (l, h))
      (λ (is : IsTaken p d code n). rw (← coded_once is) (coded_answer 5 32 is (lit≤ tt) (lit≤ tt)))

-- an answer of the step entry that is read as a number is that number
refused_given : (k : ℕ) (x : Number) → refused k ≡ given x → ⊥
refused_given k x e = never cc

given_step : (r : Result Number Refusal) (x : Number) → answer_outcome r ≡ given x → r ≡ Ok x
unfolding answer_outcome
given_step (Ok y) x e = let same : y ≡ x = cc in ap Ok same
given_step (Err refusal) x e = absurd (refused_given (row_number refusal) x e)

-- where no row applies, the step entry gives the value of the table and the quotient entry the exact quotient rounded once
module _ (p d : Number) (code n : ℕ) (is : IsTaken p d code n) where
  step_taken : (k : ℕ) → 1 ≤ k → k ≤ 32 → step_of p d code n k ≡ after_step p d (task_of code n) k
  unfolding step_of is_step
  step_taken k k0 k1 = rw (le-leb 1 k k0, le-leb k 32 k1) (sym (taken is (after_step p d (task_of code n) k)))

  table_given : (k : ℕ) → 1 ≤ k → k ≤ 32 → (x : Number) × (after_step p d (task_of code n) k ≡ given x)
  table_given k k0 k1 = let m = coded p d code n is in let x = m.2.every_step_given k k0 k1 in (x.0, rw m.1 x.1)

  pub answered : IsAnswered p d code n
  unfolding marked
  answered = record {
    step_given = λ (k : ℕ) (k0 : 1 ≤ k) (k1 : k ≤ 32).
        let x = table_given k k0 k1 in
        let entry = step_taken k k0 k1 ∙ x.1 in
        (x.0, x.1, entry, λ (r : Result Number Refusal) (e : answer_outcome r ≡ step_of p d code n k). given_step r x.0 (e ∙ entry));
    quotient_given =
        let m = coded p d code n is in
        let v = quotient (value p) (value d) in
        let x = round m.0 n v in
        let last : after_step p d (task_of code n) 32 ≡ given x = rw m.1 m.2.rounded_once in
        let entry = quotient_taken is ∙ sym (coded_once p d code n is) ∙ last in
        (m.0, m.1, entry, λ (r : Result Rounded Refusal) (e : marked_answer r ≡ marked v (quotient_of p d code n)). given_answer r x (accuracy_of (value x) v) (e ∙ ap (marked v) entry));
  }

-- The theorem, whole: for every admissible dividend, every admissible divisor but zero, the six modes and every precision from 1 to 64 the seed is near,
-- no step fails its claim, every step's exponent is working and step 32 is the exact quotient rounded once; the two entries give these values, that of the
-- quotient marked by where it lies against the exact one; and 7 and 8 never leave a division.
pub division : Division
division = record { joined = joined; answered = answered; last_is_quotient = last_is_quotient; step_answers = step_answers; quotient_answers = quotient_answers }
