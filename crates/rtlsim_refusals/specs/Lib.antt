-- Explanations of faults, for a designer. In order of reading:
-- where a fault is told
pub mod Places
-- what is said of it
pub mod Refused
pub mod SetGenerics
pub mod Races
-- explanations
pub mod Explained
pub mod Stimuli
