-- What a reader must believe of the crate `division`, in document 01's order: the rule of the seed table (Seed), what `divide` answers (Quotient), and
-- what is asked before a division (Judgement).
-- Words has the terms of private contracts; no promise of a public function cites it.
-- Definitions only; the laws stand in proofs.
pub mod Seed
pub mod Quotient
pub mod Judgement
pub mod Words
