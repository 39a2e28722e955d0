pub mod steps
pub mod Statements
