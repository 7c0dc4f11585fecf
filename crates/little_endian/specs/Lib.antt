-- What a reader must believe of the crate `little_endian`: the number in some bytes, and the bytes of a number.
-- Definitions only; the laws stand in proofs/Laws.
pub mod Bytes
