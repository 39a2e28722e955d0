pub mod Views
pub mod Compared
