pub mod Digits
pub mod Near
pub mod Limited
pub mod Widths
pub mod Known
pub mod TopDigit
pub mod Summing
pub mod Measuring
