pub mod Anys
pub mod Parts
pub mod Found
pub mod Members
pub mod Timings
pub mod EveryPath
pub mod Marking
