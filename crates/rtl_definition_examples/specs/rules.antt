-- Small trees on which the rules are tried: what is accepted, with its units, and what is refused.
pub mod Words
pub mod Expressions
pub mod Declarations
pub mod Statements
pub mod Files
