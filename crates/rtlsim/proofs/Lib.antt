pub mod Refusing
pub mod Serving
pub mod Buffers
pub mod Reading
pub mod Watching
pub mod Files
pub mod Tokens
