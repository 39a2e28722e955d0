-- What contracts see of the code's types.
pub mod Integers
pub mod Decisions
pub mod Kinds
pub mod Numbers
pub mod Prefixes
pub mod Tops
