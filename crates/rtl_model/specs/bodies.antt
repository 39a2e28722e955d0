-- The bodies of processes after elaboration: what they read and assign, and what a run of one does. In order of
-- reading:
pub mod Rows
pub mod Body
pub mod Values
pub mod Tests
pub mod Variables
pub mod Effect
pub mod Reads
pub mod Assigns
pub mod Stored
pub mod Leaves
pub mod Kinds
pub mod Types
pub mod Fits
pub mod Looks
pub mod Copies
pub mod Laws
