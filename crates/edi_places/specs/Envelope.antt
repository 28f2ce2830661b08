-- Finds the segment that shows the fault of an interchange, by its number. UNB is number 1.
use Rattle.std.specs.Prelude.{ℕ, ◌+◌, ◌-◌, ◌==◌, Bool, false, true, not, ◌&&◌, ◌||◌, if◌then◌else◌, List, [], ◌∷◌, length, take}
use Rattle.std.specs.Prelude.{Option, Some, None}
use Rattle.edi_base.specs.Seen.{is_among}
use Rattle.edi_segments.specs.declared.segment.Segment.{Segment}
use Rattle.edi_envelope.specs.declared.fault.EnvelopeFault.{EnvelopeFault}
use Rattle.edi_envelope.specs.declared.fault.EnvelopeFault.TheVariants.{InterchangeFrame, InterchangeHeader}
use Rattle.edi_envelope.specs.declared.fault.EnvelopeFault.TheVariants.{MessageFrame, MessageHeader, SegmentCount}
use Rattle.edi_envelope.specs.declared.fault.EnvelopeFault.TheVariants.{MessageReference, MessageCount}
use Rattle.edi_envelope.specs.declared.fault.EnvelopeFault.TheVariants.{ControlReference, RepeatedReference}
use Rattle.edi_envelope.specs.declared.fault.EnvelopeFault.TheVariants.{TestIndicator, TooManyMessages, CharacterSet}
use Rattle.edi_envelope.specs.declared.fault.EnvelopeFault.TheVariants.{Memory}
use Rattle.edi_envelope.specs.Segments.{is_unb, is_unz, is_unh, is_unt, component, first_segment}
use Rattle.edi_envelope.specs.Interchange.{has_high_data}
use Rattle.edi_envelope.specs.Check.{is_outer, has_identity}
use Rattle.edi_envelope.specs.Message.{is_frame, is_within_limits, is_counted, is_closed}
use Rattle.edi_places.specs.Counting.{first_place, place_from}

-- the first segment if it is not a UNB, or else the next UNB or UNZ, or else the last
abbrev pub frame_place : List Segment → Option ℕ
frame_place [] = None
frame_place (first ∷ rest) = Some (if is_unb first then 1 + first_place is_outer rest else 1)

-- the segment may come next in a row of messages, by whether a message has begun
abbrev pub may_stand : Bool → Segment → Bool
may_stand false segment = is_unh segment
may_stand true segment = is_unt segment || not (is_frame segment || is_unz segment)

-- the first segment that cannot come next; after each but a UNT a message has begun
abbrev pub first_break_place : Bool → List Segment → ℕ
first_break_place begun [] = 0
first_break_place begun (segment ∷ rest) = if may_stand begun segment then 1 + first_break_place (not (is_unt segment)) rest else 1

abbrev pub row_place : List Segment → ℕ
row_place [] = 0
row_place (unb ∷ rest) = 1 + first_break_place false rest

-- the segments of a message, UNH to UNT
abbrev pub message_at : List Segment → List Segment
message_at segments = take (first_place is_unt segments) segments

-- a message has a fault
abbrev pub shows : EnvelopeFault → List Segment → Bool
shows MessageHeader message = not (is_within_limits message)
shows SegmentCount message = not (is_counted message)
shows MessageReference message = not (is_closed message)
shows _ message = false

-- a message that has the fault begins here
abbrev pub begins_wrong : EnvelopeFault → List Segment → Bool
begins_wrong fault segments = is_unh (first_segment segments) && shows fault (message_at segments)

-- the segment of such a message: its UNH if the reference or the identifier in it is outside the limits, or else its
-- UNT
abbrev pub place_in_message : EnvelopeFault → List Segment → ℕ
place_in_message MessageHeader segments = if has_identity (first_segment segments) then first_place is_unt segments else 1
place_in_message _ segments = first_place is_unt segments

-- of the first such message
abbrev pub first_shown_place : EnvelopeFault → List Segment → ℕ
first_shown_place fault segments = place_from (begins_wrong fault) (place_in_message fault) segments

-- the first UNH with the reference of an earlier one, after these
abbrev pub first_repeat_place : List (List ℕ) → List Segment → ℕ
first_repeat_place come [] = 0
first_repeat_place come (segment ∷ rest) =
    if is_unh segment
    then (if is_among (component segment 0 0) come then 1 else 1 + first_repeat_place (component segment 0 0 ∷ come) rest)
    else 1 + first_repeat_place come rest

-- the UNH that comes after this many messages
abbrev pub place_of_unh : ℕ → List Segment → ℕ
place_of_unh before [] = 0
place_of_unh before (segment ∷ rest) =
    if is_unh segment then (if before == 0 then 1 else 1 + place_of_unh (before - 1) rest)
    else 1 + place_of_unh before rest

-- the segment that shows each fault, among all segments of the interchange; if there is none at all, none shows E06
abbrev pub envelope_place : EnvelopeFault → List Segment → Option ℕ
envelope_place InterchangeFrame segments = frame_place segments
envelope_place InterchangeHeader segments = Some 1
envelope_place MessageFrame segments = Some (row_place segments)
envelope_place MessageHeader segments = Some (first_shown_place MessageHeader segments)
envelope_place SegmentCount segments = Some (first_shown_place SegmentCount segments)
envelope_place MessageReference segments = Some (first_shown_place MessageReference segments)
envelope_place MessageCount segments = Some (length segments)
envelope_place ControlReference segments = Some (length segments)
envelope_place RepeatedReference segments = Some (first_repeat_place [] segments)
envelope_place TestIndicator segments = Some 1
envelope_place TooManyMessages segments = Some (place_of_unh 999 segments)
envelope_place CharacterSet segments = Some (first_place has_high_data segments)
envelope_place Memory segments = None
