pub mod Filters
pub mod Indexing
