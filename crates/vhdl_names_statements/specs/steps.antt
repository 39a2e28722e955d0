pub mod Deciding
pub mod Cases
pub mod Concurrent
pub mod Keys
pub mod Sequential
pub mod Told
