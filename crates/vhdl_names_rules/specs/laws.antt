-- Laws in the words of a reader, which the rules keep.
pub mod Once
pub mod Choices
pub mod Associations
pub mod Regions
pub mod Files
pub mod Sound
pub mod Parameters
