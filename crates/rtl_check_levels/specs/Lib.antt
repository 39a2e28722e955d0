pub mod Feeding
pub mod Levels
pub mod Rounds
pub mod Lowest
pub mod Orders
pub mod OfNets
pub mod Finding
