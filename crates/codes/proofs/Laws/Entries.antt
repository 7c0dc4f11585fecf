-- What packing answers, over any format: each way out of the program is a row of the definition.
use mathlib.Core.Path.{◌≡◌, refl}
use mathlib.Core.Bool.{true, false}
use mathlib.Core.List.{List}
use mathlib.Core.Option.{Option, none, some}
use Prim.Native.Nat.{ℕ}
use lib.ListN.{length}
use Rattle.std.specs.Prelude.{Ok, Err}
use Rattle.std.specs.declared.result.Result.{Result}
use borrow.Author.Tests.{eq-eqb, ne_eqb}
use Rattle.numbers.specs.Number.{is_working}
use Rattle.numbers.specs.declared.number.Number.{Number}
use Rattle.numbers.proofs.Laws.Tests.{never}
use Rattle.refusals.specs.Row.{row_number}
use Rattle.refusals.specs.declared.Refusal.{Refusal}
use Rattle.refusals.specs.declared.Refusal.TheVariants.{FirstUnfit, WrongLength, NoEqualCode}
use Rattle.codes.specs.Codes.{equal_code, unwritten, packed, writing_of}
use Rattle.codes.specs.Layout.{IsFormat, packing_of, laid, IsPacking}
use Rattle.codes.specs.declared.code.Code.{Code}
use Rattle.codes.specs.declared.code.Format.{Format}
use Rattle.codes.proofs.Laws.Packed.{placed_code, equal_code_is}

-- a refusal packs no code
refused_packing : (f : Format) (x : Number) (n : ℕ) (refusal : Refusal) → ((old : List ℕ) → length old ≡ n → unwritten (row_number refusal) old ≡ writing_of f x old) → IsPacking f x n (Err refusal)
unfolding laid
refused_packing f x n refusal h = record {
  leaves = h;
  long = λ (c : Code) (e : Err refusal ≡ Ok c). never cc;
  room = λ (c : Code) (e : Err refusal ≡ Ok c). never cc;
}

module _ (f : Format) (x : Number) (n : ℕ) where
  pub pack_unfit : is_working x ≡ false → IsPacking f x n (Err FirstUnfit)
  unfolding writing_of row_number
  pack_unfit fit = refused_packing f x n FirstUnfit (λ (old : List ℕ) (l : length old ≡ n). rw fit)

  module _ (fit : is_working x ≡ true) where
    pub pack_wrong_length : (n ≡ f.length → ⊥) → IsPacking f x n (Err WrongLength)
    unfolding writing_of row_number
    pack_wrong_length h = refused_packing f x n WrongLength (λ (old : List ℕ) (l : length old ≡ n). rw (fit, l, ne_eqb n f.length h))

    pub pack_code : IsFormat f → n ≡ f.length → (r : Result Code Refusal) → r ≡ packing_of (equal_code f x) → IsPacking f x n r
    unfolding laid writing_of packed packing_of row_number
    pack_code formed h r is = rw is (go (equal_code f x) refl)
      where
        go : (o : Option Code) → equal_code f x ≡ o → IsPacking f x n (packing_of o)
        go none e = refused_packing f x n NoEqualCode (λ (old : List ℕ) (l : length old ≡ n). rw (fit, l, eq-eqb n f.length h, e))
        go (some c) e = record {
          leaves = λ (old : List ℕ) (l : length old ≡ n). rw (fit, l, eq-eqb n f.length h, e);
          long = λ (d : Code) (k : Ok c ≡ Ok d). h;
          room = λ (d : Code) (k : Ok c ≡ Ok d). placed_code f d (equal_code_is f x d formed fit (cc)).placed;
        }
