-- How the parser reads: the grammar as functions of the tokens ahead.
pub mod Input
pub mod Expressions
pub mod Values
pub mod Lists
pub mod Behind
