pub mod Lengths
pub mod Starts
