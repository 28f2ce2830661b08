pub use Rattle.hub_core.specs as HubCore
pub use Rattle.hub_core.specs.HubRules
pub mod Answer
pub mod Asked
pub mod Extent
pub mod Parts
pub mod Paths
pub mod Question
pub mod Refusal
pub mod Route
pub mod Serve
pub mod Upload
pub mod Wording
