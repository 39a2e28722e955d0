pub mod Building
pub mod Built
pub mod Rows
pub mod NetOrders
