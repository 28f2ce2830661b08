pub use Rattle.hub_clean.specs as HubClean
pub use Rattle.hub_clean.specs.HubLaw
pub use Rattle.hub_texts.specs as HubTexts
pub use Rattle.hub_texts.specs.HubRequests
pub mod Acts
pub mod Joins
pub mod StaysClean
pub mod Verdicts
