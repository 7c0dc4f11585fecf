-- Document 01, "What callers get": what add, subtract, multiply and a rounding answer, by a task and by a mode code and a precision.
use Rattle.std.specs.Prelude.{ℕ}
use Rattle.numbers.specs.Number.{is_working}
use Rattle.numbers.specs.Fraction.{Fraction, value, sum, difference, product}
use Rattle.numbers.specs.Rounding.{task_of, precision_of}
use Rattle.numbers.specs.Answer.{Outcome, rounded, unless_unknown, unless_unfit, unless_either_unfit}
use Rattle.numbers.specs.declared.number.Number.{Number}
use Rattle.numbers.specs.declared.task.Task.{Task}
use Rattle.arithmetic.specs.declared.operation.Operation.{Operation}
use Rattle.arithmetic.specs.declared.operation.Operation.TheVariants.{Sum, Difference, Product}

-- the exact operation that a case of the enum `Operation` names
abbrev pub exact_of : Operation → Fraction → Fraction → Fraction
exact_of Sum = sum
exact_of Difference = difference
exact_of Product = product

-- What an operation by its task answers: "Add, subtract and multiply take working numbers"
unfoldable pub operation_of : (Fraction → Fraction → Fraction) → Number → Number → Task → Outcome
operation_of exact a b task = unless_either_unfit is_working a b (precision_of task) (rounded task (exact (value a) (value b)))

-- what rounding a number by itself answers
unfoldable pub rounding_of : Number → Task → Outcome
rounding_of x task = unless_unfit is_working x (precision_of task) (rounded task (value x))

-- "and code 0 to 6": what add, subtract and multiply answer
unfoldable pub coded_of : (Fraction → Fraction → Fraction) → Number → Number → ℕ → ℕ → Outcome
coded_of exact a b code n = unless_unknown 6 code (operation_of exact a b (task_of code n))

unfoldable pub sum_of : Number → Number → ℕ → ℕ → Outcome
sum_of a b code n = coded_of sum a b code n

unfoldable pub difference_of : Number → Number → ℕ → ℕ → Outcome
difference_of a b code n = coded_of difference a b code n

unfoldable pub product_of : Number → Number → ℕ → ℕ → Outcome
product_of a b code n = coded_of product a b code n
