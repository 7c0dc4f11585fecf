-- What a reader must believe of the crate `export_blocks`: the row in the number that C gets. Definitions only.
pub mod Calls
