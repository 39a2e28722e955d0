pub mod Remarks
pub mod Tables
pub mod Undefined
