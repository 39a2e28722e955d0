-- What contracts see of the code's types.
pub mod Integers
pub mod StaticTests
pub mod Vectors
pub mod Tests
pub mod Parted
pub mod Expressions
