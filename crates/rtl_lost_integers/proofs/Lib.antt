pub mod Seeing
mod Looking
