pub mod Assertions
pub mod Views
pub mod Parts
pub mod Components
