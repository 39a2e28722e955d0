pub mod Named
pub mod Saying
pub mod Parts
pub mod Clocks
pub mod Lasts
pub mod Pairing
