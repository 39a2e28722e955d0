-- Laws of expansion.
pub mod Lengths
pub mod Sites
pub mod Expressions
pub mod Statements
pub mod Trees
pub mod Labels
pub mod Bytes
