-- What the functions under the entries promise: the operands of a call, or why it has none.
use Rattle.std.specs.Prelude.{◌&&◌, cond, List, ℕ, length, Option, None, Some, Ok, Err}
use Rattle.std.specs.declared.result.Result.{Result}
use Rattle.numbers.specs.declared.number.Number.{Number}
use Rattle.export.specs.Layout.{number_in}
use Rattle.export.specs.Calls.{is_sixteen}
use Rattle.export.specs.declared.call.NoOperands.{NoOperands}
use Rattle.export.specs.declared.call.NoOperands.TheVariants.{WrongLength, NoNumber}

-- the answers of a call that has no operands
unfoldable pub code_of : NoOperands → ℕ
code_of WrongLength = 9
code_of NoNumber = 64

-- two numbers, where there are two
unfoldable pub pair_of : Option Number → Option Number → Result (Number × Number) NoOperands
pair_of (Some x) (Some y) = Ok (x, y)
pair_of (Some x) None = Err NoNumber
pair_of None y = Err NoNumber

-- the operands in two lists of bytes, where the result has n
unfoldable pub operands_of : List ℕ → List ℕ → ℕ → Result (Number × Number) NoOperands
operands_of a b n = cond (is_sixteen (length a) && (is_sixteen (length b) && is_sixteen n)) (pair_of (number_in a) (number_in b)) (Err WrongLength)
