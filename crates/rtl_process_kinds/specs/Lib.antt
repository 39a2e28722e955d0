pub mod KindViews
pub mod Drivers
pub mod ResetBranches
pub mod AskedValues
pub mod BodyViews
