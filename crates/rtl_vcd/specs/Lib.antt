-- The trace of a simulation as text. In order of reading:
pub mod Header
pub mod Trace
pub mod Shown
pub mod Blocks
pub mod Ready
pub mod Pages
pub mod Laws
