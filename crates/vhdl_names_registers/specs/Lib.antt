pub mod Looking
pub mod Spines
pub mod Views
pub mod Taking
pub mod Branching
pub mod Tied
pub mod Laws
