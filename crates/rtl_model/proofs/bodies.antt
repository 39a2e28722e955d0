-- Proofs of the laws of bodies.
pub mod Assigned
pub mod Leaves
pub mod Branching
pub mod Sequences
pub mod Rows
pub mod Agreeing
pub mod DoneSoFar
pub mod Looking
pub mod Within
pub mod LooksRead
pub mod EdgeTests
pub mod Clocking
pub mod Copying
pub mod Widths
pub mod There
pub mod Ranges
