pub use Rattle.edi_segments.specs as EdiSegments
pub use Rattle.edi_tokens.specs as EdiTokens
pub mod Segments
pub mod Limits
pub mod Header
pub mod Blocks
pub mod Message
pub mod Fault
pub mod Interchange
pub mod Reference
pub mod Check
pub mod Gathered
pub mod Opened
pub mod Law
pub mod Mail
