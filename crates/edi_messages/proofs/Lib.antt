pub mod Examples
pub mod Found
pub mod Valid
