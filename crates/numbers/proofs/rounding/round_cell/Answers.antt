-- `numbers::rounding::round_cell` meets its contract: what is added to the exponent is taken off again by the value.
use Prim.Native.Nat.{ℕ, ◌+◌, ◌*◌, ◌^◌, ◌≤◌, ◌<◌}
use Rattle.numbers.proofs.Laws.EveryValue.{scaled_binary, every_value}
use Rattle.numbers.proofs.Laws.Fits.{given_round}
use Rattle.numbers.proofs.Laws.Marked.{told_marked, claim_exact, zero_mark, told_ok, told_err}
use Rattle.numbers.proofs.Laws.Refusals.{precision_range}
use Rattle.numbers.proofs.Laws.Scaled.{scaled_fraction}
use Rattle.numbers.proofs.Laws.Signs.{abs_signed}
use Rattle.numbers.proofs.Laws.Top.{round_top, claim_top, top_lies}
use Rattle.numbers.proofs.rounding.round_cell.Goals as goal
use Rattle.numbers.proofs.rounding.round_cell.Goals.{else-magnitude-eq0-via-then-magnitude-eq0+else-magnitude-eq0-2, else-magnitude-eq0-via-else-magnitude-eq0, After-is_precision, Else-not-is_precision}
use Rattle.numbers.specs.Accuracy.{Marked, marked_answer, marked_by}
use Rattle.numbers.specs.Answer.{checked, rounded, claimed}
use Rattle.numbers.specs.Biased.{raise}
use Rattle.numbers.specs.Cell.{binary, end_of, cell_rounding, RoundsEvery, wide}
use Rattle.numbers.specs.Fraction.{above, below, scaled}
use Rattle.numbers.specs.Magnitude.{judged_top, told, rounded_top, claimed_top, IsDecided}
use Rattle.numbers.specs.Rounding.{precision_of, is_precision, round, placed}
use Rattle.numbers.specs.declared.answer.Accuracy.TheVariants as accuracy
use Rattle.numbers.specs.declared.number.Number.TheVariants.{Zero}
use Rattle.numbers.specs.declared.task.Claim.{Claim}
use Rattle.numbers.specs.declared.task.Mode.TheVariants.{Trunc}
use Rattle.numbers.specs.declared.task.Mode.{Mode}
use Rattle.numbers.specs.declared.task.Rounding.{Rounding}
use Rattle.numbers.specs.declared.task.Task.TheVariants.{Round, Exact}
use Rattle.numbers.specs.declared.task.Task.{Task}
use Rattle.numbers.specs.declared.top.Decision.{Decision}
use Rattle.refusals.specs.Row.{row_number}
use Rattle.refusals.specs.declared.Refusal.TheVariants.{BadPrecision}
use Rattle.std.proofs.lemmas.Result.{err_from_is_err_and}
use Rattle.std.specs.Prelude.{Err, Ok}
use lib.Ieee.{minus}
use lib.IntN.{ℤ}
use mathlib.Core.Bool.{Bool, true, false, cond}
use mathlib.Core.Path.{refl, ◌≡◌, sym, ap, ◌∙◌, ap₂}
use mir.Facts.{to_z-of_z}
use native.Mathlib.Nat.{zero-mul}
use native.Mathlib.Omega.{arith}

none : (n : ℕ) → wide 0 0 * n ≡ 0
unfolding wide
none n = zero-mul n

-- no bit is set: the cell is that of zero
nothing : (task : Task) (negative : Bool) (high low F : ℕ) (rest : Bool) (e : ℤ) → is_precision (precision_of task) ≡ true → wide high low ≡ end_of F rest → high ≡ 0 → low ≡ 0
    → marked_answer (Ok (record { number = Zero; accuracy = accuracy.Exact })) ≡ cell_rounding negative F rest e task
unfolding marked_answer cell_rounding binary
nothing task negative high low F rest e h end hi lo =
    rw (h, ← end, hi, lo)
    (sym (zero_mark task (scaled negative (wide 0 0) (above e) (below e)) (abs_signed negative (wide 0 0 * 2 ^ above e) ∙ none (2 ^ above e))))

-- a bit is set
low_set : (high low : ℕ) → (low ≡ 0 → ⊥) → 0 < wide high low
unfolding wide
low_set high low n = omega arith

high_set : (high low : ℕ) → (high ≡ 0 → ⊥) → 0 < wide high low
unfolding wide
high_set high low n = omega arith

-- a magnitude that was shifted without loss is still of two words
still : (F z G : ℕ) → G ≡ F * 2 ^ z → F * 2 ^ z < 2 ^ 128 → G < 2 ^ 128
still F z G e h = rw e h

-- a task has a precision from 1 to 64, and so has its case
module _ (task : Task) (n0 : 1 ≤ precision_of task) (n1 : precision_of task ≤ 64) where
  precision : (t : Task) → task ≡ t → (1 ≤ precision_of t) × (precision_of t ≤ 64)
  precision t e = let k : precision_of task ≡ precision_of t = ap precision_of e in (omega arith, omega arith)

  -- what is done at the top bit is done to the value
  module _ (negative : Bool) (F x z G : ℕ) (low : 2 ^ 127 ≤ F * 2 ^ z) (high : F * 2 ^ z < 2 ^ 128) (shifted : G ≡ F * 2 ^ z) where
    round_value : (r : Rounding) → task ≡ Round r → rounded_top r.mode negative (minus (x + 127) (raise + z)) r.precision G ≡ marked_by task (scaled negative F x raise)
    unfolding rounded_top rounded
    round_value r e =
        let p = precision (Round r) e in
        let v = scaled negative F x raise in
        rw (e, shifted, ← round_top negative F x z raise r.precision p.0 p.1 low high r.mode)
        (told_marked _ v (checked (round r.mode r.precision v))
        (λ y h. rw (given_round r.mode r.precision v y h) (sym (top_lies negative F x z raise r.precision p.0 p.1 low high r.mode))))

    claim_value : (r : Claim) → task ≡ Exact r → claimed_top negative (minus (x + 127) (raise + z)) r.precision G ≡ marked_by task (scaled negative F x raise)
    unfolding claimed_top judged_top rounded
    claim_value r e =
        let p = precision (Exact r) e in
        let v = scaled negative F x raise in
        rw (e, shifted)
        (ap (told accuracy.Exact) (sym (claim_top negative F x z raise r.precision p.0 p.1 low high ∙ rw (round_top negative F x z raise r.precision p.0 p.1 low high Trunc)))
        ∙ told_marked accuracy.Exact v (claimed r.precision v) (λ y h. sym (claim_exact r.precision v y (scaled_fraction negative F x raise) p.0 p.1 h).1))

claimed_is : (negative : Bool) (e : ℤ) (n F : ℕ) → told accuracy.Exact (judged_top negative e n F) ≡ claimed_top negative e n F
unfolding claimed_top
claimed_is negative e n F = refl

-- what is decided gives the rounding
decided_top : (mode : Mode) (negative : Bool) (e : ℤ) (n F : ℕ) (d : Decision) → IsDecided mode negative n F d
    → told d.accuracy (checked (placed negative e n (d.whole + cond d.up 1 0))) ≡ rounded_top mode negative e n F
unfolding rounded_top
decided_top mode negative e n F d is = ap₂ told is.lies (ap (λ (q : ℕ). checked (placed negative e n q)) (sym is.whole))

module _ (negative : Bool) (F : ℕ) (rest : Bool) (e : ℤ) (task : Task) where
  refused : is_precision (precision_of task) ≡ false → marked_answer (Err BadPrecision) ≡ cell_rounding negative F rest e task
  unfolding marked_answer row_number cell_rounding
  refused h = rw h

  given : is_precision (precision_of task) ≡ true → (x M : ℕ) → e ≡ minus x raise → M ≡ end_of F rest
      → marked_by task (scaled negative M x raise) ≡ cell_rounding negative F rest e task
  unfolding cell_rounding
  given h x M is end = rw (h, is, end) (scaled_binary task negative (end_of F rest) x raise (precision_range (precision_of task) h).0)

-- and so it is of every value
every : (negative : Bool) (F : ℕ) (rest : Bool) (e : ℤ) (task : Task) (out : Marked) → out ≡ cell_rounding negative F rest e task
    → (out ≡ cell_rounding negative F rest e task) × RoundsEvery out negative F rest e task
every negative F rest e task out is = (is, rw is (every_value negative F rest e task))

-- what is judged is the task's precision
judged : (c : After-is_precision) → c.is_precision.result ≡ is_precision (precision_of c.args.task)
judged c = c.is_precision.ensures ∙ ap is_precision c.precision_of.ensures

precise : (c : Else-not-is_precision) → is_precision (precision_of c.args.task) ≡ true
precise c = sym (judged c.before) ∙ c.if-not-is_precision.false

pub returns-then-not-is_precision : goal.returns-then-not-is_precision
returns-then-not-is_precision c =
    every _ _ _ _ c.args.task _ (refused _ _ _ _ c.args.task (sym (judged c.before) ∙ c.if-not-is_precision.true))

pub returns-then-magnitude-eq0-2 : goal.returns-then-magnitude-eq0-2
returns-then-magnitude-eq0-2 c =
    every _ _ _ _ c.args.task _
    (nothing c.args.task _ _ _ _ _ _ (precise (goal.at-returns-then-magnitude-eq0-2 c).Else-not-is_precision) c.end_of-magnitude.ensures c.if-magnitude-eq0.true c.if-magnitude-eq0-2.true)

pub leading_zeros-zeros-requires : goal.leading_zeros-zeros-requires
leading_zeros-zeros-requires c =
    elim c.else-magnitude-eq0.branch [
      | else-magnitude-eq0-via-then-magnitude-eq0+else-magnitude-eq0-2 w ↦ low_set _ _ w.if-magnitude-eq0-2.false
      | else-magnitude-eq0-via-else-magnitude-eq0 w ↦ high_set _ _ w.if-magnitude-eq0.false
    ]

pub decided-decision-requires : goal.decided-decision-requires
decided-decision-requires c =
    let n = precision_range _ (precise (goal.at-decided-decision-requires c).Else-not-is_precision) in
    let m = precision _ n.0 n.1 _ c.in-Round.is in
    (still _ _ _ c.shift_left.ensures c.leading_zeros-zeros.ensures.2, m.0, m.1)

pub placed-requires : goal.placed-requires
placed-requires c =
    let n = precision_range _ (precise (goal.at-placed-requires c).Else-not-is_precision) in
    let m = precision _ n.0 n.1 _ c.in-Round.is in
    (c.raised.ensures.1, m.0, m.1, c.decided-decision.ensures.small)

pub claimed-requires : goal.claimed-requires
claimed-requires c =
    let n = precision_range _ (precise (goal.at-claimed-requires c).Else-not-is_precision) in
    let m = precision _ n.0 n.1 _ c.in-Exact.is in
    (still _ _ _ c.shift_left.ensures c.leading_zeros-zeros.ensures.2, m.0, m.1)

pub returns-in_ok-number-in-Round : goal.returns-in_ok-number-in-Round
returns-in_ok-number-in-Round c =
    let h = precise (goal.at-returns-in_ok-number-in-Round c).Else-not-is_precision in
    let n = precision_range _ h in
    every _ _ _ _ c.args.task _
    (told_ok _ _ _ c.in_ok-number-in-Round.ensures
    ∙ decided_top _ _ _ _ _ _ c.decided-decision.ensures
    ∙ round_value _ n.0 n.1 _ _ _ _ _ c.leading_zeros-zeros.ensures.1 c.leading_zeros-zeros.ensures.2 c.shift_left.ensures _ c.in-Round.is
    ∙ given _ _ _ _ c.args.task h _ _ (sym (to_z-of_z c.ranges.exponent) ∙ c.raised.ensures.0) c.end_of-magnitude.ensures)

pub returns-in_err-number-in-Round : goal.returns-in_err-number-in-Round
returns-in_err-number-in-Round c =
    let h = precise (goal.at-returns-in_err-number-in-Round c).Else-not-is_precision in
    let n = precision_range _ h in
    let p = err_from_is_err_and c.from_residual.result c.from_residual.ensures.1 in
    rw (p.1, p.2)
    (every _ _ _ _ c.args.task _
    (told_err _ _ _ c.in_err-number-in-Round.ensures
    ∙ decided_top _ _ _ _ _ _ c.decided-decision.ensures
    ∙ round_value _ n.0 n.1 _ _ _ _ _ c.leading_zeros-zeros.ensures.1 c.leading_zeros-zeros.ensures.2 c.shift_left.ensures _ c.in-Round.is
    ∙ given _ _ _ _ c.args.task h _ _ (sym (to_z-of_z c.ranges.exponent) ∙ c.raised.ensures.0) c.end_of-magnitude.ensures))

pub returns-in_ok-number-in-Exact : goal.returns-in_ok-number-in-Exact
returns-in_ok-number-in-Exact c =
    let h = precise (goal.at-returns-in_ok-number-in-Exact c).Else-not-is_precision in
    let n = precision_range _ h in
    every _ _ _ _ c.args.task _
    (told_ok _ _ _ c.in_ok-number-in-Exact.ensures
    ∙ claimed_is _ _ _ _
    ∙ claim_value _ n.0 n.1 _ _ _ _ _ c.leading_zeros-zeros.ensures.1 c.leading_zeros-zeros.ensures.2 c.shift_left.ensures _ c.in-Exact.is
    ∙ given _ _ _ _ c.args.task h _ _ (sym (to_z-of_z c.ranges.exponent) ∙ c.raised.ensures.0) c.end_of-magnitude.ensures)

pub returns-in_err-number-in-Exact : goal.returns-in_err-number-in-Exact
returns-in_err-number-in-Exact c =
    let h = precise (goal.at-returns-in_err-number-in-Exact c).Else-not-is_precision in
    let n = precision_range _ h in
    let p = err_from_is_err_and c.from_residual-in_err-number-in-Exact.result c.from_residual-in_err-number-in-Exact.ensures.1 in
    rw (p.1, p.2)
    (every _ _ _ _ c.args.task _
    (told_err _ _ _ c.in_err-number-in-Exact.ensures
    ∙ claimed_is _ _ _ _
    ∙ claim_value _ n.0 n.1 _ _ _ _ _ c.leading_zeros-zeros.ensures.1 c.leading_zeros-zeros.ensures.2 c.shift_left.ensures _ c.in-Exact.is
    ∙ given _ _ _ _ c.args.task h _ _ (sym (to_z-of_z c.ranges.exponent) ∙ c.raised.ensures.0) c.end_of-magnitude.ensures))
