-- Known numerals and figures, computed, and the laws; each function's proof stands in the folder of its name.
pub mod Known
pub mod Laws
