-- The known values of document 01, computed; each function's proof stands in the folder of its name.
pub mod Known
