pub mod Kept
pub mod Naming
