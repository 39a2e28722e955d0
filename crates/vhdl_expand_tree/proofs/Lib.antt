pub mod Alike
pub mod Charging
pub mod Parts
pub mod Counts
