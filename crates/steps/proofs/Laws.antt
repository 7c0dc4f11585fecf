-- The laws of the thirty-two steps, in their order.
-- The terms that the laws are stated in
pub mod Terms
-- A line on answers, and the run of the lines
pub mod Combined
pub mod Run
-- Step 1: the seed
pub mod SeedStep
-- Steps 2 to 8: the reciprocal and the halves of the divisor
pub mod Shortened
pub mod Complement
pub mod Reciprocal
pub mod Halves
pub mod Worked
-- Steps 9 to 29: a digit and the remainder after it
pub mod Remainder
pub mod Estimate
pub mod Next
pub mod OneDigit
-- Steps 30 to 32: the digits' sum is rounded as the exact quotient
pub mod DigitSum
-- All of them: every value is a result, and every step of admissible operands is given
pub mod Results
pub mod Failing
pub mod Divided
