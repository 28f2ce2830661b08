pub mod Digits
pub mod Gln
pub mod Gtin
pub mod Overlap
pub mod Prefix
pub mod Sscc
pub mod StoredPrefix
