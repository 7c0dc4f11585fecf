-- What a reader must believe of the crate `codes`: the two formats, and what reading and writing a code answer (Codes).
-- Layout has the terms that the laws of codes and private contracts are stated in; no promise of a public function cites them.
-- Formats shows that both formats fulfil Layout's `IsFormat`, and how many exponent fields each has. The other laws stand in proofs/Laws.
pub mod Codes
pub mod Layout
pub mod Formats
