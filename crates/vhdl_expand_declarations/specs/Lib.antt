pub mod Stepwise
pub mod Regions
pub mod Views
pub mod Generics
pub mod Objects
pub mod Constants
pub mod Associations
pub mod Variables
