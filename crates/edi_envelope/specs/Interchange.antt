-- The interchange that a list of segments is, or its envelope fault (ISO 9735, structures).
use Rattle.std.specs.Prelude.{ℕ, Bool, false, not, ◌==◌, ◌&&◌, ◌||◌, nat_le, nat_lt, List, [], ◌∷◌, map, length, find}
use Rattle.std.specs.Prelude.{Option, Some, None, Result, Ok, Err}
use Rattle.std.specs.List.{list_any, list_all}
use Rattle.std.specs.Str.{bytes_eq}
use Rattle.edi_segments.specs.declared.segment.Segment.{Segment}
use Rattle.edi_segments.specs.declared.segment.Tokens.{Tokens}
use Rattle.edi_envelope.specs.declared.fault.EnvelopeFault.{EnvelopeFault}
use Rattle.edi_envelope.specs.declared.fault.EnvelopeFault.TheVariants.{InterchangeFrame, InterchangeHeader}
use Rattle.edi_envelope.specs.declared.fault.EnvelopeFault.TheVariants.{MessageFrame, MessageHeader, SegmentCount}
use Rattle.edi_envelope.specs.declared.fault.EnvelopeFault.TheVariants.{MessageReference, MessageCount}
use Rattle.edi_envelope.specs.declared.fault.EnvelopeFault.TheVariants.{ControlReference, RepeatedReference}
use Rattle.edi_envelope.specs.declared.fault.EnvelopeFault.TheVariants.{TestIndicator, TooManyMessages, CharacterSet}
use Rattle.edi_envelope.specs.declared.fault.EnvelopeFault.TheVariants.{Memory}
use Rattle.edi_envelope.specs.declared.interchange.Interchange.{Interchange}
use Rattle.edi_envelope.specs.Segments.{is_unb, is_unz, component, first_segment, last_segment, between}
use Rattle.edi_base.specs.Limits.{is_count_of}
use Rattle.edi_envelope.specs.Header.{is_valid_header, is_test, is_seven_bit_set, head_of}
use Rattle.edi_envelope.specs.Blocks.{before_message, blocks}
use Rattle.edi_base.specs.Seen.{has_twice}
use Rattle.edi_envelope.specs.Message.{is_block, is_within_limits, is_counted, is_closed, reference_of, message_of}

-- UNB first, UNZ last, and neither between them
unfoldable pub is_framed : List Segment → Bool
is_framed segments =
    is_unb (first_segment segments) && is_unz (last_segment segments)
    && not (list_any (λ segment. is_unb segment || is_unz segment) (between segments))

-- the segments of each message: what comes between UNB and UNZ, cut before each UNH
abbrev pub messages_in : List Segment → List (List Segment)
messages_in segments = blocks (between segments)

-- messages and nothing else come between UNB and UNZ
unfoldable pub is_row_of_messages : List Segment → Bool
is_row_of_messages segments =
    (length (before_message (between segments)) == 0) && list_all is_block (messages_in segments)

-- a byte that no character set of seven bits has, from 0xA0 on
abbrev pub has_high : List ℕ → Bool
has_high bytes = list_any (λ b. nat_le 160 b) bytes

abbrev pub has_high_data : Segment → Bool
has_high_data segment = list_any (list_any has_high) segment.elements

-- such a byte in the data of any segment, under UNOA or UNOB
unfoldable pub is_outside_set : List Segment → Bool
is_outside_set segments = is_seven_bit_set (first_segment segments) && list_any has_high_data segments

-- Each condition, of all segments of the interchange. Each is defined even if another one holds.
abbrev pub holds : EnvelopeFault → List Segment → Bool
holds InterchangeFrame segments = not (is_framed segments)
holds InterchangeHeader segments = not (is_valid_header (first_segment segments))
holds MessageFrame segments = not (is_row_of_messages segments)
holds MessageHeader segments = not (list_all is_within_limits (messages_in segments))
holds SegmentCount segments = not (list_all is_counted (messages_in segments))
holds MessageReference segments = not (list_all is_closed (messages_in segments))
holds MessageCount segments = not (is_count_of (component (last_segment segments) 0 0) (length (messages_in segments)))
holds ControlReference segments =
    not (bytes_eq (component (last_segment segments) 1 0) (component (first_segment segments) 4 0))
holds RepeatedReference segments = has_twice (map reference_of (messages_in segments))
holds TestIndicator segments = is_test (first_segment segments)
holds TooManyMessages segments = nat_lt 999 (length (messages_in segments))
holds CharacterSet segments = is_outside_set segments
holds Memory segments = false

-- the faults by rising number
abbrev pub faults : List EnvelopeFault
faults =
    InterchangeFrame ∷ InterchangeHeader ∷ MessageFrame ∷ MessageHeader ∷ SegmentCount ∷ MessageReference ∷ MessageCount
    ∷ ControlReference ∷ RepeatedReference ∷ TestIndicator ∷ TooManyMessages ∷ CharacterSet ∷ []

-- the lowest number whose condition holds
unfoldable pub fault_of : List Segment → Option EnvelopeFault
fault_of segments = find (λ fault. holds fault segments) faults

-- what the header and the messages say
unfoldable pub contents_of : Tokens → Interchange
contents_of tokens = record {
  decimal = tokens.service.decimal;
  head = head_of (first_segment tokens.segments);
  messages = map message_of (messages_in tokens.segments);
}

abbrev pub checked : Option EnvelopeFault → Interchange → Result Interchange EnvelopeFault
checked None interchange = Ok interchange
checked (Some fault) interchange = Err fault

-- the interchange, or the fault, of the decimal mark and the segments of a text
unfoldable pub interchange_of : Tokens → Result Interchange EnvelopeFault
interchange_of tokens = checked (fault_of tokens.segments) (contents_of tokens)
