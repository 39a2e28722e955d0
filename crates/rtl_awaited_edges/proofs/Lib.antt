pub mod Edges
pub mod Leading
pub mod FirstAwaited
