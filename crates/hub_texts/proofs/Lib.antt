pub use Rattle.hub_law.proofs.HubRules
pub mod Appended
pub mod Bounds
pub mod CancelTexts
pub mod Cutting
pub mod Digits
mod Examples
pub mod FilledFields
pub mod LineTexts
pub mod MailTexts
pub mod NamedLines
pub mod PalletTexts
pub mod SeenLines
pub mod Tables
