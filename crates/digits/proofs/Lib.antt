pub mod Decimal
pub mod DigitLaws
