mod Examples
pub mod Reasons
pub mod Noting
pub mod Full
pub mod OneFile
pub mod Pairs
pub mod Plain
pub mod Undone
pub mod Masks
pub mod Distinct
mod Alone
mod Bottom
