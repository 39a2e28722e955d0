pub mod Named
pub mod Adding
pub mod Bodies
pub mod Names
pub mod Driven
pub mod Starting
