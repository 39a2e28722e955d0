pub mod Rows
pub mod Transactions
pub mod Tracked
pub mod Brought
pub mod DriverCuts
pub mod Resolved
pub mod Updates
pub mod Starts
