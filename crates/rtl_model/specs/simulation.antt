-- The simulation of a flat netlist, its acceptance, and the synchronous machine that it amounts to. In order
-- of reading:
pub mod Netlist
pub mod Cycle
pub mod Moments
pub mod Elaborated
pub mod Calm
pub mod Accepted
pub mod Faults
pub mod Levels
pub mod Report
pub mod NetLevels
pub mod Races
pub mod Machine
pub mod Range
pub mod Laws
