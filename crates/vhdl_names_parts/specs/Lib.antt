pub mod Ranging
pub mod Steps
