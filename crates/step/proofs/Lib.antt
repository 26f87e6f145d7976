mod Keeping
mod Steps
pub mod Answers
