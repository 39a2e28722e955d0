pub mod Breaking
pub mod Chosen
pub mod Elements
pub mod Steps
