pub mod Ports
pub mod Declared
