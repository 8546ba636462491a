pub mod Refused
pub mod Casimirs
pub mod Pieces
