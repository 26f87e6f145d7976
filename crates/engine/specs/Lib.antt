pub mod Clocks
pub mod Keeping
pub mod Engine
