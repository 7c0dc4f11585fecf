-- Known values of the writer, computed; each function's proof stands in the folder of its name, unless the checker proves it by itself.
pub mod Known
