pub mod Stepping
pub mod Tables
pub mod Walking
