-- Describes faults by their names in words.
use Rattle.std.specs.Prelude.{ℕ, List, codes}
use Rattle.edi_segments.specs.declared.fault.TokenFault.{TokenFault}
use Rattle.edi_segments.specs.declared.fault.TokenFault.TheVariants as token
use Rattle.edi_segments.specs.Code.{code_text as token_code}
use Rattle.edi_envelope.specs.declared.fault.EnvelopeFault.{EnvelopeFault}
use Rattle.edi_envelope.specs.declared.fault.EnvelopeFault.TheVariants as envelope
use Rattle.edi_envelope.specs.Fault.{code_text as envelope_code}
use Rattle.edi_messages.specs.declared.fault.MessageFault.{MessageFault}
use Rattle.edi_messages.specs.declared.fault.MessageFault.TheVariants as message
use Rattle.edi_show.specs.declared.fault.WholeFault.{WholeFault}
use Rattle.edi_show.specs.declared.fault.WholeFault.TheVariants.{Token, Envelope}

abbrev pub token_words : TokenFault → List ℕ
token_words token.TooLong = codes "text too long"
token_words token.ServiceString = codes "service string"
token_words token.Byte = codes "byte in a segment"
token_words token.Cut = codes "text cut"
token_words token.Tag = codes "tag"
token_words token.LongSegment = codes "segment too long"
token_words token.Read = codes "read"
token_words token.Memory = codes "memory"

abbrev pub envelope_words : EnvelopeFault → List ℕ
envelope_words envelope.InterchangeFrame = codes "frame of the interchange"
envelope_words envelope.InterchangeHeader = codes "header of the interchange"
envelope_words envelope.MessageFrame = codes "frame of a message"
envelope_words envelope.MessageHeader = codes "header of a message"
envelope_words envelope.SegmentCount = codes "count of segments"
envelope_words envelope.MessageReference = codes "message reference"
envelope_words envelope.MessageCount = codes "count of messages"
envelope_words envelope.ControlReference = codes "control reference"
envelope_words envelope.RepeatedReference = codes "repeated message reference"
envelope_words envelope.TestIndicator = codes "test indicator"
envelope_words envelope.TooManyMessages = codes "too many messages"
envelope_words envelope.CharacterSet = codes "character set"
envelope_words envelope.Memory = codes "memory"

abbrev pub message_words : MessageFault → List ℕ
message_words message.MessageType = codes "message type"
message_words message.Beginning = codes "beginning of the message"
message_words message.Function = codes "message function"
message_words message.Date = codes "document date"
message_words message.Parties = codes "parties"
message_words message.Summary = codes "section control"
message_words message.Line = codes "line"
message_words message.Quantity = codes "quantity"
message_words message.Reference = codes "reference to an order"
message_words message.Unit = codes "despatch unit"
message_words message.Control = codes "control count"
message_words message.WithoutLines = codes "no line"
message_words message.Memory = codes "memory"

-- the code and the words of a fault of the whole
abbrev pub whole_code : WholeFault → List ℕ
whole_code (Token fault place) = token_code fault
whole_code (Envelope fault place) = envelope_code fault

abbrev pub whole_words : WholeFault → List ℕ
whole_words (Token fault place) = token_words fault
whole_words (Envelope fault place) = envelope_words fault
