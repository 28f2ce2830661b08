pub mod ByBytes
pub mod Placed
