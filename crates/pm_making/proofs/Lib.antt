pub mod Adding
pub mod Fits
