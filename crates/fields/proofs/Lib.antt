mod SpelledDigits
mod DigitTable
pub mod ReadWords
