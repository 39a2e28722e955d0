pub mod Walking
pub mod Texts
pub mod Lines
pub mod Cutting
pub mod Firsts
