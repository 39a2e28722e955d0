-- Tokens as words, what is said where one can't stand, and what stands in the tokens of a text. In order of reading:
pub mod Words
pub mod Parts
-- forms that aren't read, and slips of the pen
pub mod Forms
-- entities, their generics and ports, and instances of them
pub mod Interfaces
pub mod Instances
pub mod Listings
-- choices
pub mod Choices
