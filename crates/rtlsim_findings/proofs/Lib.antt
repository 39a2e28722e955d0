pub mod Keys
pub mod Joining
pub mod Lists
pub mod News
pub mod Sentences
