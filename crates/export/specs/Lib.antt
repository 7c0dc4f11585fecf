-- What a reader must believe of the crate `export`: the sixteen bytes of a number, and what a call answers and leaves.
-- Definitions only; the laws stand in proofs/Laws. `Enums` is what the functions under the entries promise.
pub mod Layout
pub mod Calls
pub mod Enums
