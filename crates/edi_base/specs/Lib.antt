pub mod Sink
pub mod Source
pub mod Buffer
pub mod Limits
pub mod Seen
