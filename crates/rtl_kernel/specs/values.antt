pub mod TwoValues
pub mod Differing
