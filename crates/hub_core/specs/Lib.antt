pub use Rattle.hub_law.specs as HubLaw
pub use Rattle.hub_rules.specs as HubRules
pub use Rattle.hub_tables.specs as HubTables
pub use Rattle.hub_transactions.specs.HubTexts
pub mod Broken
pub mod Callers
pub mod Hub
pub mod Laws
pub mod Made
pub mod Opened
pub mod Steps
pub mod Uploads
