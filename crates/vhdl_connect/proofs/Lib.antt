mod Marking
mod Numbered
mod Holding
pub mod Sourced
mod Resolving
