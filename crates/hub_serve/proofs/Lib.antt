mod Endings
mod Passing
mod Running
mod SoFar
mod Using
pub mod Stopping
