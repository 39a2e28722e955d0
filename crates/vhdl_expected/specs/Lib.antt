pub mod Reading
pub mod Changes
pub mod Told
