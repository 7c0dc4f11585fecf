-- The laws and the theorem; each function's proof stands in the folder of its name, unless the checker proves it by itself.
pub mod Laws
pub mod Only
