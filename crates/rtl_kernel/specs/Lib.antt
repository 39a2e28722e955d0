pub mod worklists
pub mod values
pub mod drivers
pub mod wakes
pub mod kernel
