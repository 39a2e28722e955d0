pub mod Runs
pub mod Combined
pub mod Evaluations
pub mod Running
pub mod Seeing
pub mod Rows
pub mod Kept
pub mod Trees
