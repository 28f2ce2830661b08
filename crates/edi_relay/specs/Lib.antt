pub mod ErrorLines
pub mod Relay
pub mod Mails
pub mod Relaying
pub mod Run
