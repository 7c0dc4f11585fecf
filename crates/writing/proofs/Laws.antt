-- The laws of the writer: parts that are written one after the other (Begun), the vans in a list of numbers (Vans), their blocks (Blocks), one block and
-- the whole output (Block, Written), and the books that take the blocks (Taken).
pub mod Begun
pub mod Vans
pub mod Blocks
pub mod Block
pub mod Written
pub mod Taken
