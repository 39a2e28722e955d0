pub mod reader
