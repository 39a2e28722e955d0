-- How the parser reads generics, ports and declarations.
pub mod Declarations
