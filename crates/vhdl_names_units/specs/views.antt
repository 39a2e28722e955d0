pub mod Answers
pub mod Targets
pub mod Actuals
pub mod Sequential
pub mod Declarations
pub mod Concurrent
pub mod Units
