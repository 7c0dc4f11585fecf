-- The laws of reports: each finished text has room (Lines), the pieces of an input (Pieces), what a taken and a refused piece leave to print, and how many
-- pieces decide (Run).
pub mod Lines
pub mod Pieces
pub mod Run
