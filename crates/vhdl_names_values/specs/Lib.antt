pub mod Choosing
pub mod Classes
pub mod Constraining
pub mod Fixing
pub mod Marking
