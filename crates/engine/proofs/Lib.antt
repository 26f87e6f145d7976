pub mod Spending
mod Turns
pub mod Noting
