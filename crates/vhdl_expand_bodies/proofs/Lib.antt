pub mod Places
pub mod Chained
pub mod Links
pub mod TestChains
pub mod Placing
pub mod Aggregating
pub mod Whole
pub mod Kept
