pub mod Deciding
pub mod Gathering
pub mod Numbering
pub mod Settling
pub mod Showing
