-- Circles and paths as texts. In order of reading:
pub mod Circles
pub mod LooksAt
pub mod Splits
pub mod Paths
