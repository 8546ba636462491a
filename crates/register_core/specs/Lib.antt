pub mod Counts
pub mod Register
pub mod Codes
pub mod Causes
pub mod Machine
pub mod Answers
pub mod Memory
pub mod Table
