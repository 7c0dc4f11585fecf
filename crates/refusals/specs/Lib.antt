-- What a reader must believe of the crate `refusals`: the number of each row (Row).
pub mod Row
