pub mod Edges
pub mod Reasons
pub mod Notes
pub mod Laws
pub mod Unsteady
