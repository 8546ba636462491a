pub mod Symbol
pub mod Monomial
pub mod Polynomial
pub mod Refusals
pub mod Grid
pub mod Exponents
pub mod Laws
