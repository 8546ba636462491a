mod Kept
mod Neighbours
pub mod Parts
mod Faults
mod Lists
mod LinkLaws
mod Runs
mod KeyLaws
pub mod Deltas
mod Projected
mod Joining
mod Contracted
mod Matches
pub mod PutBack
pub mod Exchanged
mod Inserts
mod DenseLaws
mod FunctionLaws
