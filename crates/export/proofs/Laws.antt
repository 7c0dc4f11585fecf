-- The laws of a number's sixteen bytes and of a call.
pub mod Exponents
pub mod Words
pub mod Layout
pub mod Calls
