pub mod Looks
pub mod Reading
pub mod Searching
pub mod Constants
pub mod Timing
pub mod Paths
