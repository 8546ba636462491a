pub mod Tuples
pub mod Operators
pub mod Laws
pub mod Entries
