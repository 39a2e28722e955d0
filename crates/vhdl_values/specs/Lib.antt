-- The definitions, in the order of the packages: one value, resolution, logical operators, edges
-- (std_logic_1164), then numbers, arithmetic, relations, shifts and changes of length (numeric_std).
-- Planes, Marked and Packed speak of how a vector is kept; of the public calls `planes` alone cites them.
pub mod Scalar
pub mod Resolution
pub mod Logic
pub mod Edges
pub mod Numbers
pub mod Arithmetic
pub mod Relations
pub mod Shifts
pub mod Planes
pub mod Marked
pub mod Packed
