pub mod Runs
pub mod Lists
mod Searched
mod Parts
mod Nodes
mod Driven
pub mod Reading
mod Waking
mod Taking
