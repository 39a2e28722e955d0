pub mod Asking
pub mod ObjectNames
pub mod RangeNames
pub mod Filling
pub mod Others
pub mod Aggregating
pub mod Selecting
