-- What is said where a type or a length doesn't fit. In order of reading:
pub mod Sorts
pub mod Places
pub mod Values
pub mod Misfits
pub mod Lengths
pub mod Bounds
