pub mod News
pub mod Ups
