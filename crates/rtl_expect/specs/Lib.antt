-- In order of reading:
pub mod Expected
pub mod Lines
pub mod Differences
pub mod Telling
pub mod Watching
pub mod Reading
