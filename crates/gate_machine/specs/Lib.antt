pub mod Clock
pub mod Resets
pub mod Calls
