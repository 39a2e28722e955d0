pub mod laws
pub mod Telling
pub mod Along
pub mod Memory
pub mod Passing
pub mod kept
