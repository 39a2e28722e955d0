pub mod Tables
pub mod Rows
pub mod Walks
pub mod Naming
pub mod Showing
pub mod Filling
pub mod Turns
pub mod Assembly
