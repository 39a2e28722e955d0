-- In order of reading:
pub mod Rules
pub mod Steps
