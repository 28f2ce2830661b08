pub mod Bodies
pub mod Kept
pub mod Lines
