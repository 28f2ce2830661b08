pub mod File
pub mod Founding
pub mod Marks
pub mod Opening
pub mod Settling
pub mod Stored
pub mod Version
