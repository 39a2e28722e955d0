pub mod Actuals
pub mod Associations
pub mod Instances
pub mod Maps
pub mod Tables
pub mod Generics
