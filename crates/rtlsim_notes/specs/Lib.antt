-- The notes of a finding. In order of reading:
pub mod Scopes
pub mod Loops
pub mod Sayings
pub mod Notes
