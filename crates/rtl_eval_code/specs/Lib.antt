pub mod Bodies
pub mod Written
pub mod Parts
pub mod Codes
pub mod Kept
