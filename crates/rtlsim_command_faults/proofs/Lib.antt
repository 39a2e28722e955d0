pub mod Refused
pub mod Told
pub mod Places
pub mod Names
pub mod Behind
pub mod Grammar
pub mod Described
