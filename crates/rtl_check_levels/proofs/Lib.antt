pub mod OneMore
pub mod Growing
pub mod Waiting
pub mod Settling
pub mod Placing
pub mod Rotating
pub mod OfNets
pub mod Listing
