pub mod Resolving
pub mod Arranging
pub mod Steps
pub mod Views
