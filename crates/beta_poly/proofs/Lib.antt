pub mod Steps
mod Views
mod Refused
mod Refusing
pub mod Gathered
pub mod Neighbours
mod Totals
mod Distinct
mod Rows
pub mod Lookup
pub mod ExponentLaws
mod PolynomialLaws
mod OrderLaws
pub mod Evaluation
pub mod Multiples
