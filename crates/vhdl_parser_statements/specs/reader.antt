-- How the parser reads: the grammar as functions of the tokens ahead. What a user relies on stands in `specs/grammar`
-- of vhdl_tree.
pub mod Subtypes
pub mod Wide
pub mod Texts
pub mod Sequential
pub mod Process
pub mod Waveforms
