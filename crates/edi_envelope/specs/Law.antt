-- What an envelope fault and an interchange are, apart from the order in which anything is checked.
use Rattle.std.specs.Prelude.{◌≡◌, ◌<◌, true, false, List, [], ◌∷◌, ◌++◌}
use Rattle.std.specs.List.{flat_map, AllByRecursion}
use Rattle.edi_segments.specs.declared.segment.Segment.{Segment}
use Rattle.edi_segments.specs.declared.segment.Tokens.{Tokens}
use Rattle.edi_envelope.specs.declared.fault.EnvelopeFault.{EnvelopeFault}
use Rattle.edi_envelope.specs.declared.interchange.Interchange.{Interchange}
use Rattle.edi_envelope.specs.declared.interchange.RawMessage.{RawMessage}
use Rattle.edi_envelope.specs.Segments.{is_unb, is_unz}
use Rattle.edi_envelope.specs.Header.{head_of}
use Rattle.edi_envelope.specs.Message.{is_block, message_of}
use Rattle.edi_envelope.specs.Fault.{number}
use Rattle.edi_envelope.specs.Interchange.{holds}

-- the condition holds, and none with a lower number does
pub record IsLowestEnvelopeFault (fault : EnvelopeFault) (segments : List Segment) : Type 0 where
  pub here : holds fault segments ≡ true
  pub lower : (other : EnvelopeFault) → number other < number fault → holds other segments ≡ false

-- no condition holds
abbrev pub HasNoEnvelopeFault : List Segment → Type 0
HasNoEnvelopeFault segments = (fault : EnvelopeFault) → holds fault segments ≡ false

-- a message is UNH, segments, UNT, and what UNH says of it
pub record IsMessage (message : RawMessage) : Type 0 where
  pub block : is_block message.segments ≡ true
  pub fields : message ≡ message_of message.segments

-- the segments are UNB, those of the messages in their order, and UNZ; the head is what UNB says
pub record IsInterchange (tokens : Tokens) (interchange : Interchange) : Type 0 where
  pub unb : Segment
  pub unz : Segment
  pub segments : tokens.segments ≡ unb ∷ flat_map (λ message. message.segments) interchange.messages ++ unz ∷ []
  pub begins : is_unb unb ≡ true
  pub ends : is_unz unz ≡ true
  pub decimal : interchange.decimal ≡ tokens.service.decimal
  pub head : interchange.head ≡ head_of unb
  pub messages : AllByRecursion IsMessage interchange.messages
