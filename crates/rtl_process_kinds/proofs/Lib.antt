pub mod Processes
pub mod Sources
pub mod Combinational
pub mod Drivers
pub mod ResetBranches
pub mod BodyParts
pub mod CopiedBodies
