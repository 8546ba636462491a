pub mod IndexRange
pub mod Shapes
pub mod Solve
pub mod ProjectorLaws
pub mod ActionLaws
pub mod GroupNumbers
pub mod CasimirTrace
pub mod TripleTrace
pub mod Sizes
mod EntryLemmas
mod Steps
