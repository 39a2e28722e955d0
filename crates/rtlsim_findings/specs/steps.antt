-- What functions of the code do on their way.
pub mod Joining
pub mod Pairs
pub mod Walked
