pub mod Complement
pub mod Signs
pub mod Digits
pub mod Lengths
