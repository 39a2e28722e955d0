pub mod Labels
mod Named
mod Choosing
