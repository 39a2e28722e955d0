pub mod basics
pub mod bodies
pub mod simulation
pub mod nets
