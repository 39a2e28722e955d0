pub mod Contexts
pub mod Rows
