mod Rows
pub mod Steps
