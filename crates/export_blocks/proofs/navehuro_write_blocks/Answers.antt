-- `export_blocks::navehuro_write_blocks` meets its contract: what the writer leaves, with its row in the number.
use mathlib.Core.Path.{◌≡◌, refl, ◌∙◌}
use mathlib.Core.List.{List}
use mathlib.Core.Option.{some}
use Prim.Native.Nat.{ℕ}
use Rattle.std.specs.Prelude.{⊤, Ok, Err}
use Rattle.std.specs.declared.result.Result.{Result}
use Rattle.refusals.specs.Row.{row_number, refusal_row}
use Rattle.refusals.specs.declared.Refusal.{Refusal}
use Rattle.refusals.specs.declared.Refusal.TheVariants.{UnknownMode, BadPrecision, FirstUnfit, SecondUnfit, ZeroDivisor, NoSuchStep, ExponentOutside, TooManyBits, WrongLength, AllOnes, Noncanonical, NoEqualCode, Closed, WrongCheck, WrongLayout, WrongRecord, NoneMoved, PartialVan, TooManyVans, OutputTooShort, WrongEdition}
use Rattle.writing.specs.Written.{block_writing}
use Rattle.export_blocks.specs.Calls.{row_of_number, call}
use Rattle.export_blocks.proofs.navehuro_write_blocks.Goals as goal

-- no row has number 0
some_row : (refusal : Refusal) → row_of_number (row_number refusal) ≡ some (row_number refusal)
unfolding row_of_number row_number
some_row UnknownMode = refl
some_row BadPrecision = refl
some_row FirstUnfit = refl
some_row SecondUnfit = refl
some_row ZeroDivisor = refl
some_row NoSuchStep = refl
some_row ExponentOutside = refl
some_row TooManyBits = refl
some_row WrongLength = refl
some_row AllOnes = refl
some_row Noncanonical = refl
some_row NoEqualCode = refl
some_row Closed = refl
some_row WrongCheck = refl
some_row WrongLayout = refl
some_row WrongRecord = refl
some_row NoneMoved = refl
some_row PartialVan = refl
some_row TooManyVans = refl
some_row OutputTooShort = refl
some_row WrongEdition = refl

-- the number of what the writer answers
given : (answer : Result ⊤ Refusal) (output : List ℕ) → answer ≡ Ok tt → call 0 output ≡ block_writing answer output
unfolding call block_writing row_of_number refusal_row
given answer output e = rw e

refused : (answer : Result ⊤ Refusal) (refusal : Refusal) (number : ℕ) (output : List ℕ) → answer ≡ Err refusal → number ≡ row_number refusal → call number output ≡ block_writing answer output
unfolding call block_writing refusal_row
refused answer refusal number output e n = rw (e, n, some_row)

pub returns-in-Ok : goal.returns-in-Ok
returns-in-Ok c = given _ _ c.in-Ok.is ∙ c.write_blocks.ensures

pub returns-in-Err : goal.returns-in-Err
returns-in-Err c = refused _ _ _ _ c.in-Err.is c.row.ensures ∙ c.write_blocks.ensures
