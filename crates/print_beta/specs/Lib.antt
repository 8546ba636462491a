pub mod ComponentText
pub mod Sums
pub mod Text
pub mod Latex
pub mod Styles
pub mod Csv
pub mod Printed
