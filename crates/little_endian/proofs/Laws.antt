-- The laws of little-endian bytes.
pub mod Bytes
