-- What single steps of an expansion answer.
pub mod Assignments
pub mod Statements
