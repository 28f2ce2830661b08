pub mod Front
pub mod Journaled
pub mod Line
pub mod Moment
pub mod Recording
pub mod Reply
pub mod Request
