pub mod Views
pub mod Terms
