pub mod Sequential
pub mod Concurrent
