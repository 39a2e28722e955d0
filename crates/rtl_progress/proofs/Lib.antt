pub mod Showing
pub mod Lines
