-- Lists within the code's types, as contracts see them.
pub mod Integers
pub mod Vectors
pub mod Composites
pub mod Tests
pub mod Parted
