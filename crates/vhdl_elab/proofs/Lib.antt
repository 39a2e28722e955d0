pub mod Adding
pub mod Uses
mod Placing
mod Walking
pub mod Ready
mod Seen
mod Settling
mod Shown
mod Lengths
mod NoBudget
mod Joined
mod There
