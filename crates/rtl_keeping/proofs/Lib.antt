mod Marks
pub mod Scopes
pub mod KeptSignals
mod Sound
mod Walking
mod Adding
mod Whole
