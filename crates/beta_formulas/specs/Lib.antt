pub mod YukawaBeta
pub mod ScalarBeta
