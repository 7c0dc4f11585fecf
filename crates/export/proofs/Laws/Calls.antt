-- A call by its operands: what the functions under an entry answer comes to what the call leaves.
use mathlib.Core.Path.{◌≡◌, refl}
use mathlib.Core.Bool.{Bool, true, false, ◌&&◌, cond}
use mathlib.Core.List.{List}
use Prim.Native.Nat.{ℕ}
use lib.Dec.{eqb}
use lib.IntN.{ℤ}
use lib.ListN.{length}
use borrow.Author.Tests.{eqb-true}
use Rattle.std.specs.Prelude.{Option, None, Some, Ok, Err}
use Rattle.std.specs.declared.result.Result.{Result}
use Rattle.numbers.specs.Accuracy.{Marked}
use Rattle.numbers.specs.declared.number.Number.{Number}
use Rattle.numbers.proofs.Laws.Tests.{never}
use Rattle.export.specs.Layout.{number_in}
use Rattle.export.specs.Calls.{Call, call, left_by, operated, is_sixteen, call_of}
use Rattle.export.specs.Enums.{code_of, pair_of, operands_of}
use Rattle.export.specs.declared.call.NoOperands.{NoOperands}
use Rattle.export.specs.declared.call.NoOperands.TheVariants.{WrongLength}

-- what the operands leave
unfoldable pub carried : (Number → Number → Marked) → Result (Number × Number) NoOperands → List ℕ → ℤ → Call
carried gives (Ok (x, y)) old was = left_by (gives x y) old was
carried gives (Err why) old was = call (code_of why) old was

-- a call is what its operands leave
pub carried_call : (gives : Number → Number → Marked) (a b old : List ℕ) (was : ℤ) → carried gives (operands_of a b (length old)) old was ≡ call_of gives a b old was
unfolding carried call_of operands_of operated pair_of code_of
carried_call gives a b old was = go (is_sixteen (length a) && (is_sixteen (length b) && is_sixteen (length old))) (number_in a) (number_in b)
  where
    go : (t : Bool) (p q : Option Number) → carried gives (cond t (pair_of p q) (Err WrongLength)) old was ≡ cond t (operated gives p q old was) (call 9 old was)
    go false p q = refl
    go true (Some x) (Some y) = refl
    go true (Some x) None = refl
    go true None q = refl

-- two numbers are found only where the result has room
pub operands_room : (a b : List ℕ) (n : ℕ) (x y : Number) → operands_of a b n ≡ Ok (x, y) → n ≡ 16
unfolding operands_of is_sixteen
operands_room a b n x y is = eqb-true n 16 (go (eqb (length a) 16) (eqb (length b) 16) (eqb n 16) is)
  where
    go : (t u v : Bool) → cond (t && (u && v)) (pair_of (number_in a) (number_in b)) (Err WrongLength) ≡ Ok (x, y) → v ≡ true
    go true true true h = refl
    go true true false h = never cc
    go true false v h = never cc
    go false u v h = never cc
