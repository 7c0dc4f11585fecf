-- The laws; each function's proof stands in the folder of its name.
pub mod Laws
