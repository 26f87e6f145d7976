mod Bench
pub mod Bytes
pub mod Parts
pub mod Places
pub mod Outcomes
pub mod Headers
pub mod Fields
pub mod Memories
mod Machines
pub mod Stages
pub mod Inverse
mod Cuts
pub mod Loaded
mod TwoCalls
