-- In order of reading:
pub mod Known
pub mod Bodies
pub mod Processes
pub mod Nets
pub mod Laws
pub mod Beside
pub mod Whole
