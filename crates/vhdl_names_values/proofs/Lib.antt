pub mod BreakingChoices
pub mod BreakingValues
pub mod Classed
pub mod Fixing
pub mod Further
pub mod Indicated
pub mod Marks
pub mod Valued
