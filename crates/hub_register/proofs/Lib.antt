pub mod Compared
mod Examples
pub mod Inserted
pub mod Kept
pub mod Leaving
pub mod Ordered
pub mod Permuted
pub mod PrefixFree
pub mod Readings
pub mod Rest
pub mod Right
pub mod Rising
pub mod SortedPrefixes
