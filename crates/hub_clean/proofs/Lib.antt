pub use Rattle.hub_law.proofs as HubLaw
pub mod Bytes
pub mod CleanJudges
pub mod CleanRows
pub mod CleanSteps
pub mod CleanVerdicts
pub mod Joined
pub mod Names
pub mod OpenedWithin
pub mod Placing
pub mod ReadWithin
pub mod Submitted
pub mod Verdicts
