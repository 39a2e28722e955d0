mod Runs
pub mod Assigned
pub mod Rows
mod Telling
mod Statements
mod There
