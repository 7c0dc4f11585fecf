-- The laws of division, each stated once.
-- The operands, and the size and sign of a quotient
pub mod Range
pub mod Admissible
pub mod Quotients
-- What is refused before
pub mod Divisible
-- The seed table, and a Newton step of the reciprocal
pub mod Seeds
pub mod Newton
-- The quotient of two significands, and its rounding
pub mod DigitWords
pub mod Rounds
pub mod Rows
