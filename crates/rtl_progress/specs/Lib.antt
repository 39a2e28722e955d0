pub mod Shown
pub mod Stops
