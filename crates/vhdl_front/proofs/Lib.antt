mod KeptNets
pub mod Layers
pub mod Once
