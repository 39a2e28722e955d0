pub mod Constants
pub mod Counts
pub mod Entered
pub mod Enumerating
pub mod Porting
pub mod Settled
pub mod Subtyping
pub mod Typed
