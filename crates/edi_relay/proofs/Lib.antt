pub mod Written
pub mod ReadOn
pub mod Lines
pub mod Taken
