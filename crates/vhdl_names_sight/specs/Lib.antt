pub mod Seen
pub mod Sights
pub mod Views
