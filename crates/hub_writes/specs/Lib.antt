pub mod Acts
pub mod Faults
pub mod Line
pub mod Mail
pub mod Pallet
pub mod Party
