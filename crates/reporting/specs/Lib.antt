-- What a reader must believe of reports: the text that an input prints (Report), and what demand 3 says of it (Demand). Definitions only; the laws stand in
-- proofs/Laws.
pub mod Report
pub mod Demand
