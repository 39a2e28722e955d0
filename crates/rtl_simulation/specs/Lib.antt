pub mod Simulated
pub mod Traced
pub mod Answered
pub mod Watched
pub mod Engines
pub mod Ended
pub mod Progress
pub mod Laws
