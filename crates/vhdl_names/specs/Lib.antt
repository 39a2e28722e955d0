pub mod Spelled
pub mod AllPlaces
pub mod steps
pub mod Breaking
pub mod Finding
pub mod Views
