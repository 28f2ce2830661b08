-- What the bytes of a text say.
use Rattle.std.specs.Prelude.{ℕ, Bool, true, List, [], Result, Ok, Err}
use Rattle.std.specs.List.{list_any}
use Rattle.edi_segments.specs.declared.segment.Segment.{Segment}
use Rattle.edi_segments.specs.declared.segment.Tokens.{Tokens}
use Rattle.edi_segments.specs.declared.fault.TokenFault.{TokenFault}
use Rattle.edi_segments.specs.Reading.{tokens_of}
use Rattle.edi_envelope.specs.declared.interchange.Interchange.{Interchange}
use Rattle.edi_envelope.specs.declared.fault.EnvelopeFault.{EnvelopeFault}
use Rattle.edi_envelope.specs.Interchange.{interchange_of}
use Rattle.edi_show.specs.declared.fault.WholeFault.TheVariants.{Token, Envelope}
use Rattle.edi_show.specs.declared.shown.Shown.{Shown}
use Rattle.edi_show.specs.declared.shown.Shown.TheVariants as shown
use Rattle.edi_show.specs.Content.{shown_messages, is_refused_message}
use Rattle.edi_places.specs.Envelope.{envelope_place}
use Rattle.edi_places.specs.Text.{text_place}

-- The interchange of a text, or its fault with the segment that shows it. UNB comes before the messages.
abbrev pub shown_interchange : Tokens → Result Interchange EnvelopeFault → Shown
shown_interchange tokens (Err fault) = shown.Refused (Envelope fault (envelope_place fault tokens.segments))
shown_interchange tokens (Ok interchange) = shown.Interchange (record {
  service = tokens.service;
  head = interchange.head;
  messages = shown_messages 1 interchange.messages;
})

abbrev pub shown_tokens : Tokens → Shown
shown_tokens tokens = shown_interchange tokens (interchange_of tokens)

abbrev pub shown_read : List ℕ → Result Tokens TokenFault → Shown
shown_read bytes (Err fault) = shown.Refused (Token fault (text_place bytes))
shown_read bytes (Ok tokens) = shown_tokens tokens

-- what the bytes say
abbrev pub shown_of : List ℕ → Shown
shown_of bytes = shown_read bytes (tokens_of bytes)

-- the segments that a text spells; none if it spells none
abbrev pub segments_in : Result Tokens TokenFault → List Segment
segments_in (Err fault) = []
segments_in (Ok tokens) = tokens.segments

-- the whole is refused, or one of the messages
abbrev pub is_refused : Shown → Bool
is_refused (shown.Refused fault) = true
is_refused (shown.Interchange interchange) = list_any is_refused_message interchange.messages
