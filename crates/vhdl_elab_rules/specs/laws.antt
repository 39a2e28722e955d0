-- Laws of elaboration.
pub mod Nets
pub mod Sources
pub mod Shape
pub mod Bodies
pub mod Processes
pub mod Wiring
pub mod Sound
pub mod Scopes
pub mod Signals
pub mod Names
pub mod Bytes
