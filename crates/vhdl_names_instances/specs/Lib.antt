pub mod Breaking
pub mod Table
pub mod Views
pub mod steps
