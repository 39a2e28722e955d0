-- The lines of a netlist and of a verdict. In order of reading:
pub mod NetText
pub mod Reports
pub mod CheckText
pub mod DotText
pub mod Printing
