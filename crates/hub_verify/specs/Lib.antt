pub mod Clean
pub mod Counts
pub mod Cross
pub mod Goods
pub mod Verdict
