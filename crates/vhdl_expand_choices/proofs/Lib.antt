pub mod Chains
pub mod Joined
pub mod Choosing
pub mod Greatest
pub mod Turning
pub mod Serving
