-- What a reader must believe of the crate `steps`, in document 01's order: the seed, the thirty-two lines, the value after a step and when a step fails (Steps),
-- what `step` answers (Wanted), and what the theorem says that joins the steps to the quotient (Theorem).
-- Run has the terms of private contracts; no promise of a public function cites it.
-- Definitions only; the laws stand in proofs.
pub mod Steps
pub mod Wanted
pub mod Theorem
pub mod Run
