pub use Rattle.hub_rules.proofs as HubRules
pub mod Acting
pub mod Acts
pub mod Agreeing
pub mod Balance
pub mod Callers
pub mod Cutting
mod Examples
pub mod Going
mod InExamples
mod JoinExamples
pub mod JoinsApart
pub mod Judged
pub mod MailOf
pub mod Overlapping
pub mod Recurring
pub mod Remembering
pub mod Repeated
pub mod Retailers
pub mod Runs
pub mod Staying
pub mod Steps
pub mod Stopping
