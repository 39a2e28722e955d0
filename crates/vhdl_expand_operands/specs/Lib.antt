pub mod Results
pub mod Sized
pub mod Known
pub mod Operands
pub mod Placings
pub mod Selecteds
