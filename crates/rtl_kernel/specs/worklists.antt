pub mod Numbers
pub mod Marked
