pub mod rows
pub mod Told
pub mod Lists
pub mod Once
pub mod Behind
mod Listing
