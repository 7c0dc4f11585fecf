-- `arithmetic::magnitude::product` meets its contract: a number is its two words.
use Rattle.std.proofs.Common.{◌≡◌, ℕ, ◌/◌, ◌%◌, ◌^◌, arith}
use Rattle.numbers.specs.Cell.{wide}
use Rattle.arithmetic.proofs.magnitude.product.Goals as goal

joined : (n : ℕ) → wide (n / 2 ^ 64) (n % 2 ^ 64) ≡ n
unfolding wide
joined n = omega arith

pub returns : goal.returns
returns c = rw (c.from.ensures, c.from-2.ensures) (joined _)
