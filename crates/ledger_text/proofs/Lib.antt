mod Parts
mod Runs
mod Turns
pub mod Answers
