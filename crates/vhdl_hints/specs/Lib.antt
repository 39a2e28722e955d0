-- What the tokens around a fault tell of it. In order of reading:
-- what is looked for
pub mod Ends
-- what is told
pub mod Hinted
pub mod NearNames
pub mod Hints
pub mod Sayings
