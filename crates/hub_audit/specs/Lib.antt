pub mod Audit
pub mod Every
pub mod File
pub mod Key
pub mod Next
pub mod Report
pub mod Rows
