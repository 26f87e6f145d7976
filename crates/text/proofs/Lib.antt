pub mod Figures
mod Fits
