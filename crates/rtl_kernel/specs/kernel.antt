pub mod Simulation
pub mod Given
pub mod Picked
pub mod Kept
