pub mod Missing
pub mod Sights
