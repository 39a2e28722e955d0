pub mod Outcomes
pub mod Listed
pub mod Spans
pub mod Marked
pub mod Tracked
