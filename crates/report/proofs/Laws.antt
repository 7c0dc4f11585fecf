-- The laws of the program: what is kept of the blocks that were taken (Awaited), and the blocks in the buffer (Read).
pub mod Awaited
pub mod Read
