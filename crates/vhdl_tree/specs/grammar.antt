-- The grammar: how each tree is spelled, and which trees are well formed.
pub mod Wide
pub mod Expressions
pub mod Subtypes
pub mod Texts
pub mod Waveforms
pub mod Sequential
pub mod Process
pub mod Instance
pub mod Concurrent
pub mod Declarations
pub mod Units
