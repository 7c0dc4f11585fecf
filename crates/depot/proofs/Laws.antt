-- The laws of depots. Of blocks: the block that is written for some records, and the sequences of blocks that are taken.
pub mod Split
pub mod Written
pub mod Sequence
-- Of figures: sums in any order, amounts, what roundings do to them, the bracket of a sum, its spread, the bracket of a mean, and the range of sums
pub mod Order
pub mod Amounts
pub mod Close
pub mod Bracket
pub mod Spread
pub mod Mean
pub mod Range
-- Of the entries below: what they answer on a depot's numbers
pub mod Answers
pub mod Rates
-- Of the state and the book
pub mod Vans
pub mod Reached
-- Of the code: room in a state for the records of a block
pub mod Room
