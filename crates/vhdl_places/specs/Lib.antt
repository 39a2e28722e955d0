-- Places among the tokens of a source. In order of reading:
pub mod Statements
pub mod Uses
pub mod Lists
pub mod Regions
pub mod Firsts
pub mod Maps
pub mod Drivers
