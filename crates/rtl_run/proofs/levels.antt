pub mod Alike
pub mod Turns
