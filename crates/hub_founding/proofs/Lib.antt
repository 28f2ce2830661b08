pub mod Beside
pub mod Gathering
pub mod Held
pub mod Keys
