-- `steps::wanted::digits` meets its contract: each call is the line of its step, and the wanted one is returned.
use Rattle.std.proofs.Common.{◌≡◌, sym, ◌∙◌, arith, refl}
use Rattle.division.proofs.Laws.Admissible.{admissible_working}
use Rattle.steps.specs.Run.{line_outcome}
use Rattle.steps.specs.Steps.{lines, result_at, term_of, result_of, worked_out, after_step}
use Rattle.steps.proofs.Laws.Run.{one, both}
use Rattle.steps.proofs.TableLines.{line_9}
use Rattle.steps.proofs.wanted.digits.Goals as goal
use Rattle.steps.proofs.wanted.digits.Goals.{After-combined-p1, After-combined-p2, After-combined-p3, After-combined-pt1, After-combined-pt2, After-combined-pt3, After-combined-q0, After-combined-q1, After-combined-q2, After-combined-q3, After-combined-qdh0, After-combined-qdh1, After-combined-qdh2, After-combined-qdl0, After-combined-qdl1, After-combined-qdl2, After-combined-qq1, After-combined-qq2, After-rounded-p0, After-rounded-ph0, After-rounded-ph1, After-rounded-ph2, After-rounded-ph3}

pub invariant_of-rounded : goal.invariant_of-rounded
invariant_of-rounded c = record { fit = admissible_working c.args.p c.requires.0 }

-- what each line gives is the value after its step
is_p0 : (c : After-rounded-p0) → line_outcome c.rounded-p0.result ≡ after_step c.args.p c.args.d.number c.args.task.task 9
unfolding line_outcome
is_p0 c = c.rounded-p0.ensures ∙ sym (line_9 _ _ _)

is_ph0 : (c : After-rounded-ph0) → line_outcome c.rounded-ph0.result ≡ after_step c.args.p c.args.d.number c.args.task.task 10
unfolding after_step worked_out lines result_at term_of result_of
is_ph0 c = one _ _ c.rounded-ph0.ensures (is_p0 (goal.at-After-rounded-ph0 c).After-rounded-p0) refl

is_q0 : (c : After-combined-q0) → line_outcome c.combined-q0.result ≡ after_step c.args.p c.args.d.number c.args.task.task 11
unfolding after_step worked_out lines result_at term_of result_of
is_q0 c = both _ _ c.combined-q0.ensures (is_ph0 (goal.at-After-combined-q0 c).After-rounded-ph0) (c.reciprocal-sd2.ensures c.args.p c.args.task.task) refl

is_qdh0 : (c : After-combined-qdh0) → line_outcome c.combined-qdh0.result ≡ after_step c.args.p c.args.d.number c.args.task.task 12
unfolding after_step worked_out lines result_at term_of result_of
is_qdh0 c = both _ _ c.combined-qdh0.ensures (is_q0 (goal.at-After-combined-qdh0 c).After-combined-q0) (c.high_half-dh.ensures c.args.p c.args.task.task) refl

is_qdl0 : (c : After-combined-qdl0) → line_outcome c.combined-qdl0.result ≡ after_step c.args.p c.args.d.number c.args.task.task 13
unfolding after_step worked_out lines result_at term_of result_of
is_qdl0 c = both _ _ c.combined-qdl0.ensures (is_q0 (goal.at-After-combined-qdl0 c).After-combined-q0) (c.low_half-dl.ensures c.args.p c.args.task.task) refl

is_pt1 : (c : After-combined-pt1) → line_outcome c.combined-pt1.result ≡ after_step c.args.p c.args.d.number c.args.task.task 14
unfolding after_step worked_out lines result_at term_of result_of
is_pt1 c = both _ _ c.combined-pt1.ensures (is_p0 (goal.at-After-combined-pt1 c).After-rounded-p0) (is_qdh0 (goal.at-After-combined-pt1 c).After-combined-qdh0) refl

is_p1 : (c : After-combined-p1) → line_outcome c.combined-p1.result ≡ after_step c.args.p c.args.d.number c.args.task.task 15
unfolding after_step worked_out lines result_at term_of result_of
is_p1 c = both _ _ c.combined-p1.ensures (is_pt1 (goal.at-After-combined-p1 c).After-combined-pt1) (is_qdl0 (goal.at-After-combined-p1 c).After-combined-qdl0) refl

is_ph1 : (c : After-rounded-ph1) → line_outcome c.rounded-ph1.result ≡ after_step c.args.p c.args.d.number c.args.task.task 16
unfolding after_step worked_out lines result_at term_of result_of
is_ph1 c = one _ _ c.rounded-ph1.ensures (is_p1 (goal.at-After-rounded-ph1 c).After-combined-p1) refl

is_q1 : (c : After-combined-q1) → line_outcome c.combined-q1.result ≡ after_step c.args.p c.args.d.number c.args.task.task 17
unfolding after_step worked_out lines result_at term_of result_of
is_q1 c = both _ _ c.combined-q1.ensures (is_ph1 (goal.at-After-combined-q1 c).After-rounded-ph1) (c.reciprocal-sd2.ensures c.args.p c.args.task.task) refl

is_qdh1 : (c : After-combined-qdh1) → line_outcome c.combined-qdh1.result ≡ after_step c.args.p c.args.d.number c.args.task.task 18
unfolding after_step worked_out lines result_at term_of result_of
is_qdh1 c = both _ _ c.combined-qdh1.ensures (is_q1 (goal.at-After-combined-qdh1 c).After-combined-q1) (c.high_half-dh.ensures c.args.p c.args.task.task) refl

is_qdl1 : (c : After-combined-qdl1) → line_outcome c.combined-qdl1.result ≡ after_step c.args.p c.args.d.number c.args.task.task 19
unfolding after_step worked_out lines result_at term_of result_of
is_qdl1 c = both _ _ c.combined-qdl1.ensures (is_q1 (goal.at-After-combined-qdl1 c).After-combined-q1) (c.low_half-dl.ensures c.args.p c.args.task.task) refl

is_pt2 : (c : After-combined-pt2) → line_outcome c.combined-pt2.result ≡ after_step c.args.p c.args.d.number c.args.task.task 20
unfolding after_step worked_out lines result_at term_of result_of
is_pt2 c = both _ _ c.combined-pt2.ensures (is_p1 (goal.at-After-combined-pt2 c).After-combined-p1) (is_qdh1 (goal.at-After-combined-pt2 c).After-combined-qdh1) refl

is_p2 : (c : After-combined-p2) → line_outcome c.combined-p2.result ≡ after_step c.args.p c.args.d.number c.args.task.task 21
unfolding after_step worked_out lines result_at term_of result_of
is_p2 c = both _ _ c.combined-p2.ensures (is_pt2 (goal.at-After-combined-p2 c).After-combined-pt2) (is_qdl1 (goal.at-After-combined-p2 c).After-combined-qdl1) refl

is_ph2 : (c : After-rounded-ph2) → line_outcome c.rounded-ph2.result ≡ after_step c.args.p c.args.d.number c.args.task.task 22
unfolding after_step worked_out lines result_at term_of result_of
is_ph2 c = one _ _ c.rounded-ph2.ensures (is_p2 (goal.at-After-rounded-ph2 c).After-combined-p2) refl

is_q2 : (c : After-combined-q2) → line_outcome c.combined-q2.result ≡ after_step c.args.p c.args.d.number c.args.task.task 23
unfolding after_step worked_out lines result_at term_of result_of
is_q2 c = both _ _ c.combined-q2.ensures (is_ph2 (goal.at-After-combined-q2 c).After-rounded-ph2) (c.reciprocal-sd2.ensures c.args.p c.args.task.task) refl

is_qdh2 : (c : After-combined-qdh2) → line_outcome c.combined-qdh2.result ≡ after_step c.args.p c.args.d.number c.args.task.task 24
unfolding after_step worked_out lines result_at term_of result_of
is_qdh2 c = both _ _ c.combined-qdh2.ensures (is_q2 (goal.at-After-combined-qdh2 c).After-combined-q2) (c.high_half-dh.ensures c.args.p c.args.task.task) refl

is_qdl2 : (c : After-combined-qdl2) → line_outcome c.combined-qdl2.result ≡ after_step c.args.p c.args.d.number c.args.task.task 25
unfolding after_step worked_out lines result_at term_of result_of
is_qdl2 c = both _ _ c.combined-qdl2.ensures (is_q2 (goal.at-After-combined-qdl2 c).After-combined-q2) (c.low_half-dl.ensures c.args.p c.args.task.task) refl

is_pt3 : (c : After-combined-pt3) → line_outcome c.combined-pt3.result ≡ after_step c.args.p c.args.d.number c.args.task.task 26
unfolding after_step worked_out lines result_at term_of result_of
is_pt3 c = both _ _ c.combined-pt3.ensures (is_p2 (goal.at-After-combined-pt3 c).After-combined-p2) (is_qdh2 (goal.at-After-combined-pt3 c).After-combined-qdh2) refl

is_p3 : (c : After-combined-p3) → line_outcome c.combined-p3.result ≡ after_step c.args.p c.args.d.number c.args.task.task 27
unfolding after_step worked_out lines result_at term_of result_of
is_p3 c = both _ _ c.combined-p3.ensures (is_pt3 (goal.at-After-combined-p3 c).After-combined-pt3) (is_qdl2 (goal.at-After-combined-p3 c).After-combined-qdl2) refl

is_ph3 : (c : After-rounded-ph3) → line_outcome c.rounded-ph3.result ≡ after_step c.args.p c.args.d.number c.args.task.task 28
unfolding after_step worked_out lines result_at term_of result_of
is_ph3 c = one _ _ c.rounded-ph3.ensures (is_p3 (goal.at-After-rounded-ph3 c).After-combined-p3) refl

is_q3 : (c : After-combined-q3) → line_outcome c.combined-q3.result ≡ after_step c.args.p c.args.d.number c.args.task.task 29
unfolding after_step worked_out lines result_at term_of result_of
is_q3 c = both _ _ c.combined-q3.ensures (is_ph3 (goal.at-After-combined-q3 c).After-rounded-ph3) (c.reciprocal-sd2.ensures c.args.p c.args.task.task) refl

is_qq2 : (c : After-combined-qq2) → line_outcome c.combined-qq2.result ≡ after_step c.args.p c.args.d.number c.args.task.task 30
unfolding after_step worked_out lines result_at term_of result_of
is_qq2 c = both _ _ c.combined-qq2.ensures (is_q2 (goal.at-After-combined-qq2 c).After-combined-q2) (is_q3 (goal.at-After-combined-qq2 c).After-combined-q3) refl

is_qq1 : (c : After-combined-qq1) → line_outcome c.combined-qq1.result ≡ after_step c.args.p c.args.d.number c.args.task.task 31
unfolding after_step worked_out lines result_at term_of result_of
is_qq1 c = both _ _ c.combined-qq1.ensures (is_qq2 (goal.at-After-combined-qq1 c).After-combined-qq2) (is_q1 (goal.at-After-combined-qq1 c).After-combined-q1) refl

pub returns-then-wanted-eq9 : goal.returns-then-wanted-eq9
returns-then-wanted-eq9 c = rw c.if-wanted-eq9.true (is_p0 (goal.at-returns-then-wanted-eq9 c).After-rounded-p0)

pub returns-then-wanted-eq10 : goal.returns-then-wanted-eq10
returns-then-wanted-eq10 c = rw c.if-wanted-eq10.true (is_ph0 (goal.at-returns-then-wanted-eq10 c).After-rounded-ph0)

pub returns-then-wanted-eq11 : goal.returns-then-wanted-eq11
returns-then-wanted-eq11 c = rw c.if-wanted-eq11.true (is_q0 (goal.at-returns-then-wanted-eq11 c).After-combined-q0)

pub returns-then-wanted-eq12 : goal.returns-then-wanted-eq12
returns-then-wanted-eq12 c = rw c.if-wanted-eq12.true (is_qdh0 (goal.at-returns-then-wanted-eq12 c).After-combined-qdh0)

pub returns-then-wanted-eq13 : goal.returns-then-wanted-eq13
returns-then-wanted-eq13 c = rw c.if-wanted-eq13.true (is_qdl0 (goal.at-returns-then-wanted-eq13 c).After-combined-qdl0)

pub returns-then-wanted-eq14 : goal.returns-then-wanted-eq14
returns-then-wanted-eq14 c = rw c.if-wanted-eq14.true (is_pt1 (goal.at-returns-then-wanted-eq14 c).After-combined-pt1)

pub returns-then-wanted-eq15 : goal.returns-then-wanted-eq15
returns-then-wanted-eq15 c = rw c.if-wanted-eq15.true (is_p1 (goal.at-returns-then-wanted-eq15 c).After-combined-p1)

pub returns-then-wanted-eq16 : goal.returns-then-wanted-eq16
returns-then-wanted-eq16 c = rw c.if-wanted-eq16.true (is_ph1 (goal.at-returns-then-wanted-eq16 c).After-rounded-ph1)

pub returns-then-wanted-eq17 : goal.returns-then-wanted-eq17
returns-then-wanted-eq17 c = rw c.if-wanted-eq17.true (is_q1 (goal.at-returns-then-wanted-eq17 c).After-combined-q1)

pub returns-then-wanted-eq18 : goal.returns-then-wanted-eq18
returns-then-wanted-eq18 c = rw c.if-wanted-eq18.true (is_qdh1 (goal.at-returns-then-wanted-eq18 c).After-combined-qdh1)

pub returns-then-wanted-eq19 : goal.returns-then-wanted-eq19
returns-then-wanted-eq19 c = rw c.if-wanted-eq19.true (is_qdl1 (goal.at-returns-then-wanted-eq19 c).After-combined-qdl1)

pub returns-then-wanted-eq20 : goal.returns-then-wanted-eq20
returns-then-wanted-eq20 c = rw c.if-wanted-eq20.true (is_pt2 (goal.at-returns-then-wanted-eq20 c).After-combined-pt2)

pub returns-then-wanted-eq21 : goal.returns-then-wanted-eq21
returns-then-wanted-eq21 c = rw c.if-wanted-eq21.true (is_p2 (goal.at-returns-then-wanted-eq21 c).After-combined-p2)

pub returns-then-wanted-eq22 : goal.returns-then-wanted-eq22
returns-then-wanted-eq22 c = rw c.if-wanted-eq22.true (is_ph2 (goal.at-returns-then-wanted-eq22 c).After-rounded-ph2)

pub returns-then-wanted-eq23 : goal.returns-then-wanted-eq23
returns-then-wanted-eq23 c = rw c.if-wanted-eq23.true (is_q2 (goal.at-returns-then-wanted-eq23 c).After-combined-q2)

pub returns-then-wanted-eq24 : goal.returns-then-wanted-eq24
returns-then-wanted-eq24 c = rw c.if-wanted-eq24.true (is_qdh2 (goal.at-returns-then-wanted-eq24 c).After-combined-qdh2)

pub returns-then-wanted-eq25 : goal.returns-then-wanted-eq25
returns-then-wanted-eq25 c = rw c.if-wanted-eq25.true (is_qdl2 (goal.at-returns-then-wanted-eq25 c).After-combined-qdl2)

pub returns-then-wanted-eq26 : goal.returns-then-wanted-eq26
returns-then-wanted-eq26 c = rw c.if-wanted-eq26.true (is_pt3 (goal.at-returns-then-wanted-eq26 c).After-combined-pt3)

pub returns-then-wanted-eq27 : goal.returns-then-wanted-eq27
returns-then-wanted-eq27 c = rw c.if-wanted-eq27.true (is_p3 (goal.at-returns-then-wanted-eq27 c).After-combined-p3)

pub returns-then-wanted-eq28 : goal.returns-then-wanted-eq28
returns-then-wanted-eq28 c = rw c.if-wanted-eq28.true (is_ph3 (goal.at-returns-then-wanted-eq28 c).After-rounded-ph3)

pub returns-then-wanted-eq29 : goal.returns-then-wanted-eq29
returns-then-wanted-eq29 c = rw c.if-wanted-eq29.true (is_q3 (goal.at-returns-then-wanted-eq29 c).After-combined-q3)

pub returns-then-wanted-eq30 : goal.returns-then-wanted-eq30
returns-then-wanted-eq30 c = rw c.if-wanted-eq30.true (is_qq2 (goal.at-returns-then-wanted-eq30 c).After-combined-qq2)

pub returns-then-wanted-eq31 : goal.returns-then-wanted-eq31
returns-then-wanted-eq31 c = rw c.if-wanted-eq31.true (is_qq1 (goal.at-returns-then-wanted-eq31 c).After-combined-qq1)

pub returns : goal.returns
unfolding after_step worked_out lines result_at term_of result_of
returns c =
    let last : c.args.wanted ≡ 32 = omega arith in
    rw last (both _ _ c.combined.ensures (is_qq1 (goal.at-returns c).After-combined-qq1) (is_q0 (goal.at-returns c).After-combined-q0) refl)
