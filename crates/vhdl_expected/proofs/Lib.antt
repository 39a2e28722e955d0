pub mod Walks
pub mod Within
pub mod Begun
pub mod Trials
pub mod Expectation
pub mod Tables
