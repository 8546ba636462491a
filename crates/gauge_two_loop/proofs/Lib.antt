pub mod Squares
pub mod Shares
pub mod CasimirSums
pub mod Terms
pub mod PieceLaws
pub mod YukawaValues
pub mod YukawaSums
pub mod Faults
