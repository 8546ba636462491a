pub mod Tensor
pub mod Operations
pub mod Collected
pub mod Constants
pub mod Refusals
pub mod Laws
pub mod Grid
