-- What is printed is what the book says (Demand) and does not depend on the edition (Editions), and the laws; each function's proof stands in the folder of its name.
pub mod Laws
pub mod Demand
pub mod Editions
