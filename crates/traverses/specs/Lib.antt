pub mod Files
pub mod Traverse
pub mod Calls
pub mod Plain
pub mod Theorems
