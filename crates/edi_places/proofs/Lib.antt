mod Examples
pub mod Mapped
pub mod Repeats
pub mod Showing
pub mod Stopping
