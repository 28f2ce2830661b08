pub mod Key
pub mod KeyOrder
pub mod Prefixes
pub mod Rows
