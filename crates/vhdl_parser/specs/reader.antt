-- How the parser reads: the grammar as functions of the tokens ahead. What a user relies on stands in `specs/grammar`
-- of vhdl_tree.
pub mod Context
pub mod Instance
pub mod Concurrent
pub mod Units
