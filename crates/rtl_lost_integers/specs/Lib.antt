-- In order of reading:
pub mod Lost
pub mod Told
pub mod Watching
