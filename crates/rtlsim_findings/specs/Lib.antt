-- What is told of a verdict, as data. In order of reading:
pub mod Ranges
pub mod Once
pub mod Omitted
pub mod Mixed
pub mod Causes
pub mod Findings
pub mod Sayings
pub mod Remarked
pub mod steps
