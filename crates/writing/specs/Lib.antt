-- What a reader must believe of the crate `writing`: the vans in a list of numbers (Vans), their blocks in an edition and what the writer answers and leaves
-- (Written), and that these are the only blocks of that edition that a depot accepts for the vans (Only). Room has the terms of private contracts; no
-- promise of a public function cites it.
-- Definitions only; the laws stand in proofs.
pub mod Vans
pub mod Written
pub mod Only
pub mod Room
