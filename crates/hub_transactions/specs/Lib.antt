pub use Rattle.hub_acts.specs.Acts
pub use Rattle.hub_acts.specs.Joins
pub use Rattle.hub_acts.specs.StaysClean
pub use Rattle.hub_acts.specs.HubClean.Clean
pub use Rattle.hub_order_lines.specs as HubOrderLines
pub use Rattle.hub_acts.specs.HubTexts
pub mod Judged
pub mod JudgesClean
pub mod Knowing
pub mod Messages
pub mod Named
pub mod Status
pub mod Orders
