pub mod InnerResets
pub mod Reaching
pub mod NetOrigins
pub mod OutsideLooks
pub mod CalmPlaces
