pub use Rattle.hub_rules.specs as HubRules
pub mod Finding
pub mod Goods
pub mod Showing
