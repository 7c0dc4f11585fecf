-- The table of answers of document 01, with the rows that document 02 adds: the number of each refusal, in the table's order.
use Rattle.std.specs.Prelude.{ℕ, Ok, Err}
use Rattle.std.proofs.Math.Option.{Option, none, some}
use Rattle.std.specs.declared.result.Result.{Result}
use Rattle.refusals.specs.declared.Refusal.{Refusal}
use Rattle.refusals.specs.declared.Refusal.TheVariants.{UnknownMode, BadPrecision, FirstUnfit, SecondUnfit, ZeroDivisor, NoSuchStep, ExponentOutside, TooManyBits, WrongLength, AllOnes, Noncanonical, NoEqualCode, Closed, WrongCheck, WrongLayout, WrongRecord, NoneMoved, PartialVan, TooManyVans, OutputTooShort, WrongEdition}

-- "Where an answer is an enum, a definition gives this paper's number and values for each case of the enum"
unfoldable pub row_number : Refusal → ℕ
row_number UnknownMode = 1
row_number BadPrecision = 2
row_number FirstUnfit = 3
row_number SecondUnfit = 4
row_number ZeroDivisor = 5
row_number NoSuchStep = 6
row_number ExponentOutside = 7
row_number TooManyBits = 8
row_number WrongLength = 9
row_number AllOnes = 10
row_number Noncanonical = 11
row_number NoEqualCode = 12
row_number Closed = 13
row_number WrongCheck = 14
row_number WrongLayout = 15
row_number WrongRecord = 16
row_number NoneMoved = 17
row_number PartialVan = 18
row_number TooManyVans = 19
row_number OutputTooShort = 20
row_number WrongEdition = 21

-- "The lowest number that applies is returned, and none where no row applies." The row of the refusal, if a call refuses
unfoldable pub refusal_row : {T : Type 0} → Result T Refusal → Option ℕ
refusal_row (Ok x) = none
refusal_row (Err refusal) = some (row_number refusal)
