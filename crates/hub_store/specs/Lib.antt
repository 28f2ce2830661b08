pub mod Calls
pub mod Clean
pub mod Heads
pub mod Lines
