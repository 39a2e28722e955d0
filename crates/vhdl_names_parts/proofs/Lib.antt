pub mod Meant
pub mod Ranging
pub mod Locals
