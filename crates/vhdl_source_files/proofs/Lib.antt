pub mod Told
pub mod Placed
pub mod Cuts
pub mod Named
