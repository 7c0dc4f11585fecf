-- The laws, the lines and the theorem; each function's proof stands in the folder of its name.
pub mod Laws
pub mod TableLines
pub mod Theorem
