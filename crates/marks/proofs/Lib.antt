pub mod Marking
pub mod Telling
