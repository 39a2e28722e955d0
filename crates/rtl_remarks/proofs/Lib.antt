mod LeftOut
pub mod Listed
mod Meanwhile
mod ResetBranches
mod Rising
mod Events
mod Leaving
