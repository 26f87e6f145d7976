mod Ends
pub mod Fitting
