-- Lists, and chains of numbers.
pub mod Lists
pub mod Rising
pub mod Search
pub mod Options
pub mod Chains
pub mod Walks
