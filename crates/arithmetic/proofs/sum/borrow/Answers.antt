-- `arithmetic::sum::borrow` meets its contract: the low word is the flag.
use Rattle.std.proofs.Common.{◌≡◌, Bool, true, false, refl}
use mir.Val.{bool_byte}
use Rattle.numbers.specs.Grid.{bit_of}
use Rattle.numbers.specs.Cell.{wide}
use Rattle.arithmetic.proofs.sum.borrow.Goals as goal

flag : (rest : Bool) → wide 0 (bool_byte rest) ≡ bit_of rest
unfolding wide
flag true = refl
flag false = refl

pub returns : goal.returns
returns c = rw c.from.ensures (flag c.args.rest)
