-- What the code makes step by step.
pub mod Chains
pub mod Computed
pub mod Vectors
pub mod Tests
