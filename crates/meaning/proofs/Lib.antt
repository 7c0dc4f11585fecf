-- What the rounding of `numbers` means.

-- Each mode gives what document 01's words ask, and nothing else has that meaning: fractions by their side of zero, the numbers of n bits around a value, that
-- a rounding passes none of them, near and sticky, and all six modes
pub mod Sides
pub mod Neighbours
pub mod Between
pub mod Nearest
pub mod Meaning
-- Where a rounding lies
pub mod Accuracy
-- Rounding keeps the order
pub mod Monotone
-- Near to 53 bits is the rounding of IEEE 754's binary64
pub mod Ieee
