pub mod views
pub mod Faults
pub mod Lists
pub mod Once
