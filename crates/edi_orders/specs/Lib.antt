pub use Rattle.edi_messages.specs as EdiMessages
pub use Rattle.edi_messages.specs.EdiEnvelope
pub mod Order
pub mod Response
