pub use Rattle.edi_envelope.specs as EdiEnvelope
pub use Rattle.edi_envelope.specs.EdiSegments
pub mod Cases
pub mod Change
pub mod Register
pub mod Rows
pub mod Sets
pub mod State
pub mod Tables
