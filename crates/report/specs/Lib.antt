-- The terms of the program's private contracts. What it prints is defined in `reporting`.
pub mod Program
