-- Small designs on which the definitions are tried.
pub mod Words
pub mod Designs
pub mod Refusals
pub mod Bodies
