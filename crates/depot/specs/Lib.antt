-- What a reader must believe of the crate `depot`, in document 01's order: what a record counts as, its rate and the figures of two sums (Figures), what
-- asking for a rate answers (Rate), the depot's state, what loading a block and asking for figures answer (Depot), the book that is kept from the offered
-- blocks, the vans taken and their mean (Book), a list of calls and its replies (Calls), and what demand 3 says of every such list, and request E3 of two (Demand). Blocks
-- and records are those of the crate `blocks`.
-- Sequence has the block of some records in an edition, which the crate `writing` cites, Room the terms of private contracts, which no promise of a public function
-- cites.
-- Definitions only; the laws stand in proofs.
pub mod Figures
pub mod Rate
pub mod Depot
pub mod Book
pub mod Calls
pub mod Demand
pub mod Sequence
pub mod Room
