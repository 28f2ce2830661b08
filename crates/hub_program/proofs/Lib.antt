pub mod Commands
pub mod Simple
