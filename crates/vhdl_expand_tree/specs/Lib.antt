pub mod Views
pub mod Costs
pub mod Counts
