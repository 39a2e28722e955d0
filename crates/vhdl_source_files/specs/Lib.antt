-- A source of several files.
pub mod Files
pub mod Laws
pub mod Cutting
pub mod Listed
