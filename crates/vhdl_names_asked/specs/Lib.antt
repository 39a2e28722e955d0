pub mod Asked
pub mod Givings
