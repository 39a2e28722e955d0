pub mod Assigned
pub mod Sequences
pub mod Parts
pub mod Counted
pub mod Selecting
