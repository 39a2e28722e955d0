pub mod Kept
-- for the code's own clauses
pub mod Steps
