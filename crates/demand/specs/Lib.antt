-- What a reader must believe of demand 3, whole.
pub mod Demand3
