pub mod Worth
pub mod Halves
mod RowWorth
mod Adders
pub mod Network
