-- The laws that several proofs cite, each stated once.

-- What each exact operation gives is a fraction; operands and the numbers that they stand
-- for; sums of a larger and a smaller operand; what the entries answer
pub mod Operations
pub mod Operands
pub mod Sum
pub mod Aligned
pub mod Entries
