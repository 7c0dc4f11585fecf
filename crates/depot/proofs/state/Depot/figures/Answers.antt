-- `depot::state::Depot::figures` meets its contract: each way out has the tests of `figures_of` behind it.
use mathlib.Core.Path.{◌≡◌, sym, ◌∙◌}
use mathlib.Core.Bool.{true}
use native.Mathlib.Nat.{pos_of_ne-zero}
use borrow.Author.Tests.{eq-eqb, ne_eqb}
use Rattle.refusals.specs.Row.{row_number}
use Rattle.depot.specs.Figures.{figures_by, bracket_figures}
use Rattle.depot.specs.Depot.{is_fit_depot, figures_of}
use Rattle.depot.specs.Room.{mode_of}
use Rattle.depot.proofs.Laws.Room.{fit_clauses}
use Rattle.depot.proofs.state.Depot.figures.Goals as goal
use Rattle.depot.proofs.state.Depot.figures.Goals.{Else-not-is_fit}

fit : (c : Else-not-is_fit) → is_fit_depot c.args.self ≡ true
fit c = sym c.is_fit.ensures ∙ c.if-not-is_fit.false

pub returns-then-not-is_fit : goal.returns-then-not-is_fit
unfolding bracket_figures figures_of row_number
returns-then-not-is_fit c = rw (← c.is_fit.ensures, c.if-not-is_fit.true)

pub returns-then-self-eq0 : goal.returns-then-self-eq0
unfolding bracket_figures figures_of figures_by row_number
returns-then-self-eq0 c = rw (fit (goal.at-returns-then-self-eq0 c).Else-not-is_fit, eq-eqb _ _ c.if-self-eq0.true)

pub mean-requires : goal.mean-requires
mean-requires c = ((fit_clauses _ (fit (goal.at-mean-requires c).Else-not-is_fit)).low_fit, pos_of_ne-zero c.if-self-eq0.false)

pub mean-requires-2 : goal.mean-requires-2
mean-requires-2 c = ((fit_clauses _ (fit (goal.at-mean-requires-2 c).Else-not-is_fit)).high_fit, pos_of_ne-zero c.if-self-eq0.false)

pub returns : goal.returns
unfolding bracket_figures figures_of figures_by mode_of
returns c = rw (fit (goal.at-returns c).Else-not-is_fit, ne_eqb _ _ c.if-self-eq0.false, c.mean.ensures, c.mean-2.ensures)
