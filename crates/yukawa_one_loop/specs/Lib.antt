pub mod Entries
pub mod Matrices
pub mod Parts
