pub mod Alike
pub mod Search
