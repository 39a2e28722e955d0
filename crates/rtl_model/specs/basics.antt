-- What bodies and simulation share. In order of reading:
pub mod Valuations
pub mod Lists
pub mod Chains
