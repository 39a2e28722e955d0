-- In order of reading, after those of vhdl_front_rules:
pub mod Laws
-- for the code's own clauses
pub mod Steps
