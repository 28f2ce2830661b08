pub mod Asks
pub mod Shown
