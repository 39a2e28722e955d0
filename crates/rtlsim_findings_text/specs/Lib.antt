-- Verdicts as paragraphs and as JSON. In order of reading:
pub mod Placed
pub mod Explained
pub mod Values
pub mod Json
pub mod Refusals
pub mod RemarkText
pub mod Marks
