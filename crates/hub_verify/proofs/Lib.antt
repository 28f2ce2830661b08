pub mod Cleaning
pub mod Counting
pub mod Crossing
pub mod Findings
pub mod Gathered
pub mod Judging
pub mod Tallying
