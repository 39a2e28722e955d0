-- In order of reading:
pub mod Asking
pub mod Sources
pub mod Designs
pub mod Refusals
pub mod Faults
