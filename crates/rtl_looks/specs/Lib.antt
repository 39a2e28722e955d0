pub mod Denoting
pub mod Evaluating
pub mod Targets
pub mod Parts
pub mod Walks
pub mod Rests
