-- What an analysed file is.
pub mod Expressions
pub mod Statements
pub mod Units
pub mod Bytes
