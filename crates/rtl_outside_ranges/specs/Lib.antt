pub mod Outside
pub mod Tables
