pub mod Body
pub mod Fields
pub mod Head
pub mod Response
