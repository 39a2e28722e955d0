pub mod Kinds
pub mod Units
pub mod Early
pub mod Statements
pub mod Left
pub mod Refusals
