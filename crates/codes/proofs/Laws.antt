-- The laws of codes: the field of an exponent, the number with a code's value, the leading one, the parts of a code, the code that equals a number,
-- what packing answers, and the theorems on reading and writing.
pub mod Places
pub mod Decoded
pub mod Leading
pub mod Parts
pub mod Packed
pub mod Entries
pub mod Codes
-- The binary64 code is that of IEEE 754
pub mod Ieee
