pub mod Lowest
pub mod Behind
pub mod Drivers
