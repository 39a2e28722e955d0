pub mod Rest
pub mod Choices
pub mod Folds
pub mod Names
pub mod Searches
pub mod Tables
