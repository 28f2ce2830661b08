pub use Rattle.hub_clean.proofs as HubClean
pub mod CleanActs
pub mod Joins
