-- What a reader must believe of the crate `numbers`, in document 01's order: which numbers are fit (Number), exact fractions and a number's
-- value (Fraction), rounding to n bits and the task (Rounding), a number or a refusal (Answer), and where the number lies, seen from the
-- true value (Accuracy); the rounding of a cell (Cell).
-- Grid has the terms that the laws of rounding are stated in, and Biased and Magnitude those of private contracts.
-- Definitions only; the laws stand in proofs/Laws.
pub mod Number
pub mod Fraction
pub mod Rounding
pub mod Answer
pub mod Accuracy
pub mod Grid
pub mod Cell
pub mod Biased
pub mod Magnitude
