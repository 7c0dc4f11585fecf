-- The theorems on lists of calls and on editions, and the laws; each function's proof stands in the folder of its name, unless the checker proves it by itself.
pub mod Laws
pub mod Demand
pub mod Editions
