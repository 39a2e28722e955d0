pub mod Absent
pub mod ArrowTexts
pub mod Greatest
pub mod Numbered
pub mod Printing
mod Words
