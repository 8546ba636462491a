pub mod Actions
pub mod Faults
pub mod Legs
pub mod Steps
