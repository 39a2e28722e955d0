pub mod Awaiting
pub mod Laws
