pub mod Cursor
pub mod reader
