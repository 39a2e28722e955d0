-- The words of rules.
pub mod Rules
