-- What contracts see of the code's types.
pub mod Ranges
