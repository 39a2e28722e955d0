pub mod Connected
pub mod BodyLaws
pub mod Woken
pub mod Located
