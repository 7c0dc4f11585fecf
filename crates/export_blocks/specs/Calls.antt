-- What a call of the exported function leaves, in the terms of writing/specs/Written.
use Rattle.std.specs.Prelude.{List, ℕ, zero, suc}
use Rattle.std.proofs.Math.Option.{Option, none, some}
use Rattle.writing.specs.Written.{Left}

-- the row in the number that C gets: 0 is none, any other number the row of that number
unfoldable pub row_of_number : ℕ → Option ℕ
row_of_number zero = none
row_of_number (suc n) = some (suc n)

-- an answer with the output at exit
unfoldable pub call : ℕ → List ℕ → Left
call answer output = record { refusal = row_of_number answer; output = output }
