-- The laws of the crate `text`: what is cut (Cut), digits and the definitions' (Digits), and the most bytes of numbers and figures (Lengths).
pub mod Cut
pub mod Digits
pub mod Lengths
