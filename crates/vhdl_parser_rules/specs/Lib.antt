pub mod Fault
pub mod Stuck
pub mod Expected
pub mod Near
