pub mod Marks
pub mod Numbered
pub mod Listed
pub mod Cutting
