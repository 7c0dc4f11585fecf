-- What a reader must believe of the crate `arithmetic`: what each operation answers (Operations).
-- Private has the terms of private contracts; no promise of a public function cites them.
-- Definitions only; the laws stand in proofs/Laws.
pub mod Operations
pub mod Private
