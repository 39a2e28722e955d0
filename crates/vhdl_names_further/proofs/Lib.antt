pub mod Walks
pub mod Blanks
