pub mod Listed
pub mod OneSource
pub mod Stored
pub mod Clocks
pub mod Keeping
pub mod SameReports
