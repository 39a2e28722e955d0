pub mod Lists
pub mod Groups
pub mod Cuts
pub mod Kept
pub mod NextMarks
pub mod Touching
pub mod Written
pub mod steps
