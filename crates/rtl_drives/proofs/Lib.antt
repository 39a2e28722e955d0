pub mod Counting
pub mod Listing
pub mod Assigned
pub mod Marking
pub mod Places
