pub mod Sites
pub mod Conditions
pub mod steps
