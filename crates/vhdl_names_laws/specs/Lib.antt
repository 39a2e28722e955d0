pub mod Meanings
pub mod Words
pub mod Texts
pub mod Placed
pub mod Laws
