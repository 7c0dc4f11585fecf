-- Every list of calls has a run, so the part of demand 3 on runs speaks of something: for each row there is an answer with its number.
use mathlib.Core.Path.{◌≡◌, refl}
use mathlib.Core.Bool.{Bool, true, false, not, cond}
use mathlib.Core.List.{List, [], ◌∷◌}
use mathlib.Core.Option.{Option, none, some}
use Prim.Native.Nat.{ℕ}
use lib.Dec.{eqb}
use lib.ListN.{length}
use Rattle.std.specs.Prelude.{Ok, Err}
use Rattle.std.specs.declared.result.Result.{Result}
use Rattle.refusals.specs.Row.{row_number, refusal_row}
use Rattle.refusals.specs.declared.Refusal.{Refusal}
use Rattle.refusals.specs.declared.Refusal.TheVariants.{FirstUnfit, WrongLength, Closed, WrongCheck, WrongLayout, WrongRecord, NoneMoved, WrongEdition}
use Rattle.numbers.specs.declared.task.Mode.TheVariants.{Up, Down}
use Rattle.blocks.specs.Block.{edition_of, records_of, has_check, is_laid_out, may_follow, are_lawful, row_of}
use Rattle.depot.specs.Figures.{mean_of, Figures, figures_by, bracket_figures}
use Rattle.depot.specs.Depot.{fresh, is_fit_depot, load_row, left_by, load_of, figures_of, loaded}
use Rattle.depot.specs.Calls.{Call, load, ask, Reply, to_load, to_ask, IsRun, ended, loads, asks}
use Rattle.depot.specs.declared.figures.Bracket.{Bracket}
use Rattle.depot.specs.declared.state.Depot.{Depot}

-- one of two, by a test
either : {A : Type 0} (P : A → Type 0) (t : Bool) {x y : A} → P x → P y → P (cond t x y)
either P true p q = p
either P false p q = q

-- ---- a block offered

abbrev IsAnswered : Option ℕ → Type 0
IsAnswered row = (a : Result Unit Refusal) × (refusal_row a ≡ row)

row_answered : (s : Depot) (block : List ℕ) → IsAnswered (load_row s block)
unfolding load_row row_of refusal_row row_number
row_answered s block =
    either IsAnswered (is_fit_depot s)
    (either IsAnswered (not (eqb (length block) 512)) (Err WrongLength, refl)
    (either IsAnswered s.closed (Err Closed, refl)
    (either IsAnswered (not (has_check block)) (Err WrongCheck, refl)
    (either IsAnswered (not (is_laid_out s.blocks block)) (Err WrongLayout, refl)
    (either IsAnswered (not (may_follow s.blocks s.edition (edition_of block))) (Err WrongEdition, refl)
    (either IsAnswered (not (are_lawful (edition_of block) (s.latest ∷ []) (records_of block))) (Err WrongRecord, refl) (Ok tt, refl)))))))
    (Err FirstUnfit, refl)

some_load : (s : Depot) (block : List ℕ) → (a : Result Unit Refusal) × (left : Depot) × (loaded a left ≡ load_of s block)
unfolding load_of loaded left_by
some_load s block = go (load_row s block) (row_answered s block)
  where
    go : (row : Option ℕ) → IsAnswered row → (a : Result Unit Refusal) × (left : Depot) × (loaded a left ≡ left_by row s block)
    go none a = (a.0, (left_by none s block).depot, rw a.1)
    go (some row) a = (a.0, s, rw a.1)

-- ---- figures asked for

some_bracket : (s : Depot) → (b : Result Bracket Refusal) × (bracket_figures b ≡ figures_of s)
unfolding figures_of figures_by bracket_figures row_number
some_bracket s =
    either IsAsked (is_fit_depot s)
    (either IsAsked (eqb s.moved 0) (Err NoneMoved, refl) (Ok (record { low = mean_of Down s.low s.moved; high = mean_of Up s.high s.moved }), refl))
    (Err FirstUnfit, refl)
  where
    IsAsked : Figures → Type 0
    IsAsked f = (b : Result Bracket Refusal) × (bracket_figures b ≡ f)

-- ---- a list of calls

runs_from : (s : Depot) (calls : List Call) → (replies : List Reply) × (end : Depot) × IsRun s calls replies end
runs_from s [] = ([], s, ended)
runs_from s (load block are ∷ calls) =
    let l = some_load s block in
    let next = runs_from l.1 calls in
    (to_load (refusal_row l.0) ∷ next.0, next.1, loads l.0 l.1 l.2 next.2)
runs_from s (ask ∷ calls) =
    let b = some_bracket s in
    let next = runs_from s calls in
    (to_ask (bracket_figures b.0) ∷ next.0, next.1, asks b.0 b.1 next.2)

pub every_list_runs : (calls : List Call) → (replies : List Reply) × (end : Depot) × IsRun fresh calls replies end
every_list_runs calls = runs_from fresh calls
