-- `lines::line::Line::end` meets its contract: what is stripped of a line stands before the newline, and all of it was tried.
use mathlib.Core.Bool.{Bool, true, false}
use borrow.Author.Rules.{rules}
use borrow.Author.Tests.{tests}
use Rattle.std.proofs.Common.{[], ◌∷◌, ◌++◌, ◌≡◌, ◌≢◌, ◌<◌, List, ℕ, IfSome, length}
use Rattle.std.specs.Bool.{then_some, MatchBool}
use Rattle.std.specs.List.{AllWithin, HoldsAt}
use Rattle.std.proofs.lemmas.Bool.Decides.{Decides-eqb}
use Rattle.std.proofs.lemmas.Iterator.{cases_from_all, YieldsList-from_slice}
use Rattle.std.proofs.lemmas.Slice.Eq.{strip_suffix_is}
use Rattle.lines.proofs.line.Line.end.Goals as goal

blank : (r : Bool) (line spaces : List ℕ) → line ≡ spaces ++ 10 ∷ [] → MatchBool r (AllWithin (λ byte. byte ≡ 32) spaces 0 (length spaces)) ((k : ℕ) × (k < length spaces) × HoldsAt (λ byte. byte ≢ 32) spaces k) → IfSome (then_some r (tt {0})) (λ _. (front : List ℕ) × (line ≡ front ++ 10 ∷ []) × AllWithin (λ byte. byte ≡ 32) front 0 (length front))
blank true line spaces e all = (spaces, e, all)
blank false line spaces e all = tt

pub returns : goal.returns
returns c =
    let f = strip_suffix_is Decides-eqb c.args.self.rest.now (10 ∷ []) c.strip_suffix.result c.strip_suffix.ensures.cases in
    let g = rw c.in_ok-spaces.was at f in
    let all = cases_from_all _ _ c.all.result (λ x. x ≡ 32) (λ x. x ≢ 32) c.all.ensures.ran (YieldsList-from_slice c.in_ok-spaces.spaces.now c.iter.ensures.rest) (λ x q k. search (rules, tests)) (λ x q k. search (rules, tests)) in
    rw c.then_some.ensures (blank c.all.result _ c.in_ok-spaces.spaces.now g all)
