pub use Rattle.hub_requests.specs as HubRequests
pub use Rattle.hub_rules.specs as HubRules
pub mod Again
pub mod Alone
pub mod CancelText
pub mod InTurn
pub mod Laws
pub mod Machine
pub mod MailText
pub mod Mark
pub mod Messages
pub mod Opening
pub mod Overlap
pub mod Remembered
pub mod Replies
pub mod Requests
pub mod StatusText
pub mod Stops
pub mod Told
pub mod Widths
