pub use Rattle.hub_law.specs as HubLaw
pub mod Clean
