-- `steps::reciprocal::reciprocal` meets its contract: each call is the line of its step, and the wanted one is returned.
use Rattle.std.proofs.Common.{◌≡◌, ℕ, Ok, sym, ◌∙◌, arith}
use Rattle.numbers.specs.Answer.{Outcome}
use Rattle.numbers.specs.Rounding.{claim}
use Rattle.numbers.specs.declared.number.Number.{Number}
use Rattle.numbers.specs.declared.number.Number.TheVariants.{Zero}
use Rattle.numbers.specs.declared.task.Task.{Task}
use Rattle.steps.specs.Run.{line_outcome}
use Rattle.steps.specs.Steps.{after_step}
use Rattle.steps.proofs.Laws.Run.{one, both}
use Rattle.steps.proofs.Laws.Worked.{has_complements}
use Rattle.steps.proofs.TableLines.{line_1, line_2, line_3, line_4, line_5, line_6}
use Rattle.steps.proofs.reciprocal.reciprocal.Goals as goal
use Rattle.steps.proofs.reciprocal.reciprocal.Goals.{After-combined-sdd0, After-combined-sdd1, After-refined-sd1, After-rounded-dr, After-seed}

-- x is the value after step k of the divisor d, whatever the dividend and the task
abbrev Is : Number → ℕ → Outcome → Type 0
Is d k x = (p : Number) (task : Task) → x ≡ after_step p d task k

is_sd0 : (c : After-seed) → Is c.args.d.number 1 (line_outcome (Ok c.seed.result))
unfolding line_outcome
is_sd0 c p task = c.seed.ensures ∙ sym (line_1 p _ task)

is_dr : (c : After-rounded-dr) → Is c.args.d.number 2 (line_outcome c.rounded-dr.result)
is_dr c p task = one _ _ c.rounded-dr.ensures c.line.ensures (line_2 p _ task)

is_sdd0 : (c : After-combined-sdd0) → Is c.args.d.number 3 (line_outcome c.combined-sdd0.result)
is_sdd0 c p task =
    both _ _ c.combined-sdd0.ensures (is_sd0 (goal.at-After-combined-sdd0 c).After-seed p task) (is_dr (goal.at-After-combined-sdd0 c).After-rounded-dr p task) (line_3 p _ task)

is_sd1 : (c : After-refined-sd1) → Is c.args.d.number 4 (line_outcome c.refined-sd1.result)
is_sd1 c p task =
    both _ _ c.refined-sd1.ensures (is_sd0 (goal.at-After-refined-sd1 c).After-seed p task) (is_sdd0 (goal.at-After-refined-sd1 c).After-combined-sdd0 p task) (line_4 p _ task)

is_sdd1 : (c : After-combined-sdd1) → Is c.args.d.number 5 (line_outcome c.combined-sdd1.result)
is_sdd1 c p task =
    both _ _ c.combined-sdd1.ensures (is_sd1 (goal.at-After-combined-sdd1 c).After-refined-sd1 p task) (is_dr (goal.at-After-combined-sdd1 c).After-rounded-dr p task) (line_5 p _ task)

pub returns-then-wanted-eq1 : goal.returns-then-wanted-eq1
returns-then-wanted-eq1 c p task = rw c.if-wanted-eq1.true (is_sd0 (goal.at-returns-then-wanted-eq1 c).After-seed p task)

pub returns-then-wanted-eq2 : goal.returns-then-wanted-eq2
returns-then-wanted-eq2 c p task = rw c.if-wanted-eq2.true (is_dr (goal.at-returns-then-wanted-eq2 c).After-rounded-dr p task)

pub returns-then-wanted-eq3 : goal.returns-then-wanted-eq3
returns-then-wanted-eq3 c p task = rw c.if-wanted-eq3.true (is_sdd0 (goal.at-returns-then-wanted-eq3 c).After-combined-sdd0 p task)

pub refined-sd1-requires : goal.refined-sd1-requires
refined-sd1-requires c =
    rw (is_sdd0 (goal.at-refined-sd1-requires c).After-combined-sdd0 Zero (claim 1)) (has_complements Zero _ (claim 1) c.args.d.fit c.args.d.nonzero).0

pub returns-then-wanted-eq4 : goal.returns-then-wanted-eq4
returns-then-wanted-eq4 c p task = rw c.if-wanted-eq4.true (is_sd1 (goal.at-returns-then-wanted-eq4 c).After-refined-sd1 p task)

pub returns-then-wanted-eq5 : goal.returns-then-wanted-eq5
returns-then-wanted-eq5 c p task = rw c.if-wanted-eq5.true (is_sdd1 (goal.at-returns-then-wanted-eq5 c).After-combined-sdd1 p task)

pub refined-requires : goal.refined-requires
refined-requires c =
    rw (is_sdd1 (goal.at-refined-requires c).After-combined-sdd1 Zero (claim 1)) (has_complements Zero _ (claim 1) c.args.d.fit c.args.d.nonzero).1

pub returns : goal.returns
returns c p task =
    let last : c.args.wanted ≡ 6 = omega arith in
    rw last (both _ _ c.refined.ensures (is_sd1 (goal.at-returns c).After-refined-sd1 p task) (is_sdd1 (goal.at-returns c).After-combined-sdd1 p task) (line_6 p _ task))
