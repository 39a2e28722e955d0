pub mod Integers
pub mod Calls
pub mod Knowing
