pub mod Omissions
pub mod Parts
pub mod Laws
