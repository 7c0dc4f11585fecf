-- Demand 3, proved, that every list of calls has a run, and the known values of blocks and depots, of editions and of reports, computed.
pub mod Demand3
pub mod Runs
pub mod Known
pub mod KnownEditions
pub mod KnownReports
