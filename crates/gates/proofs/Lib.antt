mod Folds
mod Turns
mod Ranges
pub mod Meaning
