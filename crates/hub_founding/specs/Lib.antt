pub mod Fits
pub mod Founding
pub mod Gathered
