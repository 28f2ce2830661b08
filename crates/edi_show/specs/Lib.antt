pub mod Content
pub mod Fault
pub mod Goods
pub mod Lines
pub mod Messages
pub mod Orders
pub mod Shown
pub mod Text
