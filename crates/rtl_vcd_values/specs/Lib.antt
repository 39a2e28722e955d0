-- What codes and values print as. In order of reading:
pub mod Values
pub mod Puts
