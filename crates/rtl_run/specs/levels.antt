pub mod Settled
pub mod Answered
pub mod Laws
