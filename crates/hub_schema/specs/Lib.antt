pub mod Cells
pub mod Definitions
pub mod Faults
pub mod Making
pub mod Rows
pub mod Schema
pub mod State
