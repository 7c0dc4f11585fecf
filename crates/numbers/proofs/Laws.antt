-- The laws that several proofs cite, each stated once.

-- Plain numbers: tests, tables, powers of two, ratios, signs, whole numbers as differences
pub mod Tests
pub mod Table
pub mod Powers
pub mod Ratio
pub mod Signs
pub mod Splits
pub mod Minus
-- Fractions: as differences over a natural number, exact operations, whole numbers times a power of two
pub mod Pairs
pub mod Fractions
pub mod Scaled
pub mod Exact
-- Rounding, for any fraction, mode and n: the exponent that two inequalities name, whole numbers and cells, the value alone, what may stand for
-- a value, how far a rounding moves it, and that the result is fit; whole numbers of grids: their bits, tasks, multiples, and sticky; where a result
-- lies, marked outcomes, and every value of a cell; and the next number
pub mod Exponent
pub mod Whole
pub mod Cell
pub mod Value
pub mod Alike
pub mod Misses
pub mod Rounded
pub mod Bounds
pub mod Fits
pub mod Bits
pub mod Tasks
pub mod Multiples
pub mod Sticky
pub mod Accuracy
pub mod Marked
pub mod EveryValue
pub mod Next
-- Numbers: biased exponents and signed words, numbers of two words, and those with their top bit set, what makes a number fit, that its value tells it, its negation, the refusals
pub mod Bias
pub mod SignedWords
pub mod Words
pub mod Wide
pub mod Top
pub mod Working
pub mod Same
pub mod Negated
pub mod Refusals
