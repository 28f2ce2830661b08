pub mod Tables
pub mod Taking
