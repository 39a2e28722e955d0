-- A file that breaks no rule is well typed.
pub mod Giving
pub mod Aggregates
pub mod Expressions
pub mod Values
pub mod Choices
pub mod Statements
pub mod Declarations
pub mod Interfaces
pub mod Associations
pub mod Instances
pub mod Concurrent
pub mod Architectures
pub mod Files
