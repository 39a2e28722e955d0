-- In order of reading: numbers and their digits, then functions of one vector and operators on two, then what a count
-- or an index names.
pub mod TwosComplement
pub mod Digits
pub mod Converted
pub mod Operators
pub mod Counts
-- Sizes is how the code keeps a number, and no public call cites it.
pub mod Sizes
