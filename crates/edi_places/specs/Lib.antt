pub mod Counting
pub mod Envelope
pub mod Goods
pub mod Groups
pub mod Header
pub mod Orders
pub mod Text
