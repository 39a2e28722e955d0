-- What elaboration may take for granted of units that a file has.
pub mod Expressions
pub mod Statements
pub mod Units
pub mod Named
