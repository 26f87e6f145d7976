pub mod Shape
pub mod Cases
