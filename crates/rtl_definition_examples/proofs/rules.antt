-- What the small trees compute.
pub mod Expressions
pub mod Declarations
pub mod Statements
pub mod Files
