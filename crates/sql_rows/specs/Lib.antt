pub mod Tables
pub mod Cells
