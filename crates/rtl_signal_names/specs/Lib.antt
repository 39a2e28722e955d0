-- In order of reading:
pub mod Names
pub mod Naming
pub mod Chosen
