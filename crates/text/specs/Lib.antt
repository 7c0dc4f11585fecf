-- What a reader must believe of the crate `text`: what stands in a text, and whole numbers and figures as ASCII codes.
-- Definitions only; the laws stand in proofs/Laws.
pub mod Text
