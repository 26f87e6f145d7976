pub mod Bytes
pub mod Format
pub mod Reading
pub mod Calls
pub mod Theorems
pub mod Bench
