-- Proofs of the laws.
pub mod Rules
pub mod Parts
pub mod Edges
pub mod Once
pub mod Choices
pub mod Associations
pub mod Regions
pub mod Meanings
pub mod Files
pub mod Targets
pub mod Instances
pub mod Parameters
pub mod Ranged
