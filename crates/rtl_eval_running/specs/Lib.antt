pub mod Spans
pub mod Instructions
pub mod Operated
pub mod Ends
pub mod Summed
