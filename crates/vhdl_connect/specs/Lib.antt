pub mod Uses
pub mod Held
pub mod Laws
