-- Marked outcomes: equal values have one, and so have values that no multiple of a fine grid tells apart; a task that gives a number gives a rounding,
-- and a claim that holds gives the value.
use Rattle.std.specs.Prelude.{Ok, Err}
use Rattle.std.specs.declared.result.Result.{Result}
use Rattle.refusals.specs.declared.Refusal.{Refusal}
use mathlib.Core.Path.{◌≡◌, refl, sym, ap, ◌∙◌}
use mathlib.Core.Logic.{inl, inr}
use Prim.Native.Nat.{ℕ, ◌*◌, ◌^◌, ◌≤◌}
use lib.IntN.{nat_abs}
use Rattle.numbers.specs.Accuracy.{marked_as, accuracy_of, marked, marked_by, marked_answer, unmarked}
use Rattle.numbers.specs.Answer.{Outcome, given, refused, rounded, claimed, answer_outcome}
use Rattle.numbers.specs.Fraction.{Fraction, IsFraction, Equal, value}
use Rattle.numbers.specs.Grid.{Alike}
use Rattle.numbers.specs.Magnitude.{told}
use Rattle.numbers.specs.Rounding.{round, precision_of}
use Rattle.numbers.specs.declared.answer.Accuracy.{Accuracy}
use Rattle.numbers.specs.declared.answer.Accuracy.TheVariants as accuracy
use Rattle.numbers.specs.declared.answer.Rounded.{Rounded}
use Rattle.numbers.specs.declared.number.Number.{Number}
use Rattle.numbers.specs.declared.number.Number.TheVariants.{Zero}
use Rattle.numbers.specs.declared.task.Mode.{Mode}
use Rattle.numbers.specs.declared.task.Mode.TheVariants.{Trunc}
use Rattle.numbers.specs.declared.task.Task.{Task}
use Rattle.numbers.specs.declared.task.Task.TheVariants.{Round, Exact}
use Rattle.numbers.proofs.Laws.Accuracy.{exact_means, accuracy_equal, accuracy_alike}
use Rattle.numbers.proofs.Laws.Alike.{alike_rounds}
use Rattle.numbers.proofs.Laws.Bounds.{kept}
use Rattle.numbers.proofs.Laws.Cell.{one_outcome}
use Rattle.numbers.proofs.Laws.Fits.{IsClaimed, round_zero, claimed_given, given_round}
use Rattle.numbers.proofs.Laws.Multiples.{round_multiple}
use Rattle.numbers.proofs.Laws.Scaled.{zero_equal, value_fraction}
use Rattle.numbers.proofs.Laws.Tests.{never}
use Rattle.numbers.proofs.Laws.Value.{rounded_zero, same_outcome}

-- the mark taken off again
pub unmark : (x : Fraction) (o : Outcome) → unmarked (marked x o) ≡ o
unfolding marked unmarked
unmark x (given y) = refl
unmark x (refused k) = refl

-- what is told of an answer is what it is marked as
pub told_ok : (y : Number) (mark : Accuracy) (o : Outcome) → answer_outcome (Ok y) ≡ o → marked_answer (Ok (record { number = y; accuracy = mark })) ≡ told mark o
unfolding answer_outcome marked_answer told
told_ok y mark o e = ap (told mark) e

pub told_err : (mark : Accuracy) (refusal : Refusal) (o : Outcome) → answer_outcome (Err refusal) ≡ o → marked_answer (Err refusal) ≡ told mark o
unfolding answer_outcome marked_answer told
told_err mark refusal o e = ap (told mark) e

-- an outcome is marked as it is told, where its number has that accuracy
pub told_marked : (mark : Accuracy) (x : Fraction) (o : Outcome) → ((z : Number) → o ≡ given z → mark ≡ accuracy_of (value z) x) → told mark o ≡ marked x o
unfolding marked told
told_marked mark x (given z) h = ap (marked_as z) (h z refl)
told_marked mark x (refused k) h = refl

-- and alike by two values against which its number lies alike
marked_alike : (x y : Fraction) (o : Outcome) → ((z : Number) → o ≡ given z → accuracy_of (value z) x ≡ accuracy_of (value z) y) → marked x o ≡ marked y o
unfolding marked
marked_alike x y (given z) h = ap (marked_as z) (h z refl)
marked_alike x y (refused k) h = refl

-- an answer that is marked as a number gives it
pub given_answer : (a : Result Rounded Refusal) (x : Number) (mark : Accuracy) → marked_answer a ≡ marked_as x mark → a ≡ Ok (record { number = x; accuracy = mark })
unfolding marked_answer
given_answer (Ok r) x mark e = same r.number x r.accuracy mark e
  where
    answer : Number → Accuracy → Result Rounded Refusal
    answer z own = Ok (record { number = z; accuracy = own })

    same : (y x : Number) (own mark : Accuracy) → marked_as y own ≡ marked_as x mark → answer y own ≡ answer x mark
    same y x own mark e = cc
given_answer (Err refusal) x mark e = never cc

-- ---- what a task gives

-- A claim that holds gives the trunc of the value, which is exact.
pub claim_exact : (n : ℕ) (x : Fraction) (z : Number) → IsFraction x → 1 ≤ n → n ≤ 64 → claimed n x ≡ given z → (z ≡ round Trunc n x) × (accuracy_of (value z) x ≡ accuracy.Exact)
claim_exact n x z x0 n0 n1 h = go (claimed_given n x z h)
  where
    go : IsClaimed n x z → (z ≡ round Trunc n x) × (accuracy_of (value z) x ≡ accuracy.Exact)
    go (inl (none, e)) = (e ∙ sym (round_zero Trunc n x none), (exact_means (value z) x).1 (rw e (zero_equal x none)))
    go (inr (w, b, e)) = (e, (exact_means (value z) x).1 (rw e (kept x n x0 n0 n1 Trunc b)))

-- the number that a task gives is a rounding to the task's precision
given_mode : (task : Task) (x : Fraction) (z : Number) → IsFraction x → 1 ≤ precision_of task → precision_of task ≤ 64 → rounded task x ≡ given z
    → (mode : Mode) × (z ≡ round mode (precision_of task) x)
unfolding rounded
given_mode (Round r) x z x0 n0 n1 h = (r.mode, given_round r.mode r.precision x z h)
given_mode (Exact c) x z x0 n0 n1 h = (Trunc, (claim_exact c.precision x z x0 n0 n1 h).0)

-- ---- one mark

-- Equal values have one marked outcome.
pub same_mark : (task : Task) (x y : Fraction) → IsFraction x → IsFraction y → 1 ≤ precision_of task → Equal x y → marked_by task x ≡ marked_by task y
unfolding Equal
same_mark task x y x0 y0 n0 e =
    marked_alike x y (rounded task x) (λ z h. accuracy_equal (value z) (value z) x y (value_fraction z) (value_fraction z) x0 y0 refl e)
    ∙ ap (marked y) (same_outcome task x y x0 y0 n0 e)

-- So have two values that no multiple of a grid tells apart, where the first one is 2^n grids or more.
pub alike_marks : (task : Task) (x y : Fraction) (i o : ℕ) → 1 ≤ precision_of task → precision_of task ≤ 64 → IsFraction x → IsFraction y
    → 2 ^ precision_of task * (x.denominator * 2 ^ i) ≤ nat_abs x.numerator * 2 ^ o → Alike i o x y → marked_by task x ≡ marked_by task y
alike_marks task x y i o n0 n1 x0 y0 fine alike =
    marked_alike x y (rounded task x) (λ z h. lies z (given_mode task x z x0 n0 n1 h))
    ∙ ap (marked y) (one_outcome task x y (alike_rounds (precision_of task) x y i o n0 x0 y0 fine alike))
  where
    lies : (z : Number) → (mode : Mode) × (z ≡ round mode (precision_of task) x) → accuracy_of (value z) x ≡ accuracy_of (value z) y
    lies z (mode, is) = rw is (accuracy_alike i o (value (round mode (precision_of task) x)) x y (round_multiple mode (precision_of task) i o x x0 n0 n1 fine).1 alike)

-- zero stays zero, and is exact
pub zero_mark : (task : Task) (x : Fraction) → nat_abs x.numerator ≡ 0 → marked_by task x ≡ marked_as Zero accuracy.Exact
unfolding marked
zero_mark task x none = ap (marked x) (rounded_zero task x none) ∙ ap (marked_as Zero) ((exact_means (value Zero) x).1 (zero_equal x none))
