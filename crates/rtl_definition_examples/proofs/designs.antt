pub mod Designs
pub mod Refusals
pub mod Bodies
