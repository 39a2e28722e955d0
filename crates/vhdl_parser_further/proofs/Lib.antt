pub mod Walks
pub mod Within
