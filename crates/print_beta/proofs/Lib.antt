pub mod TermTexts
mod CsvRows
