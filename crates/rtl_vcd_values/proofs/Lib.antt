pub mod Digits
pub mod Lanes
pub mod Plain
pub mod Puts
pub mod Binaries
pub mod Printing
