-- Proofs about flat netlists: what is asked of them follows from their bodies and their wiring.
pub mod Processes
pub mod Values
pub mod InRange
pub mod Sources
pub mod Connected
pub mod SourcesInRange
pub mod Headline
pub mod Widened
