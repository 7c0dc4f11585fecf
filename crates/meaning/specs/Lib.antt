-- What a reader must believe of the meaning of rounding: what each mode asks of a result (Meaning), and numbers as values of the toolchain's account of IEEE 754 (Ieee).
pub mod Meaning
pub mod Ieee
