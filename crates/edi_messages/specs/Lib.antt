pub use Rattle.edi_envelope.specs as EdiEnvelope
pub use Rattle.edi_envelope.specs.EdiSegments
pub mod Fault
pub mod Header
pub mod Items
pub mod Lines
pub mod Parts
pub mod References
pub mod Summary
pub mod Values
