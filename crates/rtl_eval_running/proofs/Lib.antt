pub mod Copied
pub mod Compared
pub mod Backwards
pub mod Digits
pub mod Truths
