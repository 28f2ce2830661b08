-- What is kept of the segments that have come of an interchange, so that its fault is known at its end.
use Rattle.std.specs.Prelude.{◌≡◌, ℕ, ◌<◌, Bool, true, false, not, ◌&&◌, ◌||◌, nat_le, nat_lt, List, [], ◌∷◌, ◌++◌, length, map, drop}
use Rattle.std.specs.Prelude.{if◌then◌else◌, Option, Some, None}
use Rattle.std.specs.List.{list_any, list_all}
use Rattle.edi_segments.specs.declared.segment.Segment.{Segment}
use Rattle.std.specs.Str.{bytes_eq}
use Rattle.edi_base.specs.Limits.{is_count, is_count_of}
use Rattle.edi_base.specs.Seen.{is_among, has_twice}
use Rattle.edi_envelope.specs.declared.fault.EnvelopeFault.{EnvelopeFault}
use Rattle.edi_envelope.specs.declared.fault.EnvelopeFault.TheVariants.{InterchangeHeader, MessageFrame, MessageHeader}
use Rattle.edi_envelope.specs.declared.fault.EnvelopeFault.TheVariants.{SegmentCount, MessageReference, MessageCount}
use Rattle.edi_envelope.specs.declared.fault.EnvelopeFault.TheVariants.{ControlReference, RepeatedReference, TestIndicator}
use Rattle.edi_envelope.specs.declared.fault.EnvelopeFault.TheVariants.{TooManyMessages, CharacterSet}
use Rattle.edi_envelope.specs.declared.header.HeaderMarks.{HeaderMarks}
use Rattle.edi_envelope.specs.declared.tally.Headers.{Headers}
use Rattle.edi_envelope.specs.declared.tally.Trailers.{Trailers}
use Rattle.edi_envelope.specs.declared.tally.Begun.{Begun}
use Rattle.edi_envelope.specs.declared.check.EnvelopeConditions.{EnvelopeConditions}
use Rattle.edi_envelope.specs.declared.check.Place.{Place}
use Rattle.edi_envelope.specs.declared.check.Place.TheVariants as place
use Rattle.edi_envelope.specs.declared.check.Stage.{Stage}
use Rattle.edi_envelope.specs.declared.check.Stage.TheVariants.{Start, Between, Message, Lost, Ended, Broken}
use Rattle.edi_envelope.specs.declared.check.EnvelopeCheck.{EnvelopeCheck}
use Rattle.edi_envelope.specs.Segments.{is_unb, is_unz, is_unh, is_unt, component, first_segment, last_segment}
use Rattle.edi_envelope.specs.Limits.{is_reference, is_identifier}
use Rattle.edi_envelope.specs.Header.{is_valid_header, is_test, is_seven_bit_set}
use Rattle.edi_envelope.specs.Blocks.{blocks}
use Rattle.edi_envelope.specs.Message.{is_frame, is_counted, is_closed, reference_of}
use Rattle.edi_envelope.specs.Reference.{filled_reference}
use Rattle.edi_envelope.specs.Interchange.{is_framed, is_outside_set, has_high_data, fault_of}

-- a segment that is allowed only at an end of the interchange
abbrev pub is_outer : Segment → Bool
is_outer segment = is_unb segment || is_unz segment

-- the limits of UNH: its reference and its message identifier
abbrev pub has_identity : Segment → Bool
has_identity unh =
    is_reference (component unh 0 0)
    && is_identifier 1 6 (component unh 1 0)
    && is_identifier 1 3 (component unh 1 1)
    && is_identifier 1 3 (component unh 1 2)
    && is_identifier 1 3 (component unh 1 3)
    && is_identifier 0 6 (component unh 1 4)

-- the limits of UNT: its count
abbrev pub has_count : List Segment → Bool
has_count block = is_count (component (last_segment block) 0 0)

-- whether messages and nothing else follow, by whether one has begun
abbrev pub follows : Bool → List Segment → Bool
follows false [] = true
follows false (segment ∷ rest) = is_unh segment && follows true rest
follows true [] = false
follows true (segment ∷ rest) =
    if is_unt segment then follows false rest else not (is_frame segment) && follows true rest

-- what UNB says of itself
abbrev pub marks_of : Segment → HeaderMarks
marks_of unb = record {
  taken = is_valid_header unb;
  test = is_test unb;
  seven_bit = is_seven_bit_set unb;
  reference = filled_reference (component unb 4 0);
}

-- what the UNH of messages say
pub record Heads (messages : List (List Segment)) (headers : Headers) : Type 0 where
  pub identified : headers.identified ≡ list_all (λ message. has_identity (first_segment message)) messages
  pub count : headers.messages ≡ length messages
  pub twice : headers.identified ≡ true → headers.twice ≡ has_twice (map reference_of messages)
  pub seen : headers.identified ≡ true → headers.twice ≡ false → (text : List ℕ) → is_reference text ≡ true
      → is_among (filled_reference text) headers.seen ≡ is_among text (map reference_of messages)

-- what the UNT of messages say
pub record Trails (messages : List (List Segment)) (trailers : Trailers) : Type 0 where
  pub within : trailers.within ≡ list_all has_count messages
  pub counted : trailers.counted ≡ list_all is_counted messages
  pub closed : list_all (λ message. has_identity (first_segment message)) messages ≡ true
      → trailers.closed ≡ list_all is_closed messages

-- after UNB, with neither another UNB nor UNZ so far
pub record Fronted (lent : List Segment) (header : HeaderMarks) : Type 0 where
  pub begins : is_unb (first_segment lent) ≡ true
  pub alone : list_any is_outer (drop 1 lent) ≡ false
  pub header_is : header ≡ marks_of (first_segment lent)

-- between messages
pub record IsBetween (lent : List Segment) (check : EnvelopeCheck) : Type 0 where
  pub fronted : Fronted lent check.header
  pub outside : check.outside ≡ is_outside_set lent
  pub row : (more : List Segment) → follows false (drop 1 lent ++ more) ≡ follows false more
  pub heads : Heads (blocks (drop 1 lent)) check.headers
  pub trails : Trails (blocks (drop 1 lent)) check.trailers

-- in a message that is begun
pub record IsInMessage (lent : List Segment) (check : EnvelopeCheck) (begun : Begun) : Type 0 where
  pub fronted : Fronted lent check.header
  pub outside : check.outside ≡ is_outside_set lent
  pub row : (more : List Segment) → follows false (drop 1 lent ++ more) ≡ follows true more
  pub before : List Segment
  pub unh : Segment
  pub body : List Segment
  pub split : drop 1 lent ≡ before ++ unh ∷ body
  pub begins : is_unh unh ≡ true
  pub plain : list_any is_frame body ≡ false
  pub heads : Heads (blocks (drop 1 lent)) check.headers
  pub trails : Trails (blocks before) check.trailers
  pub count : begun.count ≡ length (unh ∷ body)
  pub reference : begun.reference ≡ filled_reference (component unh 0 0)

-- something other than messages comes between UNB and UNZ
pub record IsLost (lent : List Segment) (check : EnvelopeCheck) : Type 0 where
  pub fronted : Fronted lent check.header
  pub row : (more : List Segment) → follows false (drop 1 lent ++ more) ≡ false

-- nothing has come
pub record IsAtStart (lent : List Segment) (check : EnvelopeCheck) : Type 0 where
  pub none : lent ≡ []
  pub outside : check.outside ≡ false
  pub heads : Heads [] check.headers
  pub trails : Trails [] check.trailers

-- UNZ has come, and the fault is this
pub record IsEnded (lent : List Segment) (fault : Option EnvelopeFault) : Type 0 where
  pub fault_is : fault_of lent ≡ fault
  pub last : (segment : Segment) (more : List Segment) → is_framed (lent ++ segment ∷ more) ≡ false

-- the frame is broken, whatever comes
abbrev pub IsBroken : List Segment → Type 0
IsBroken lent = (more : List Segment) → is_framed (lent ++ more) ≡ false

abbrev pub StandsAt : Stage → List Segment → EnvelopeCheck → Type 0
StandsAt Start lent check = IsAtStart lent check
StandsAt Between lent check = IsBetween lent check
StandsAt (Message begun) lent check = IsInMessage lent check begun
StandsAt Lost lent check = IsLost lent check
StandsAt (Ended fault) lent check = IsEnded lent fault
StandsAt Broken lent check = IsBroken lent

-- these segments have come, one after another
abbrev pub Checked : List Segment → EnvelopeCheck → Type 0
Checked lent check = StandsAt check.stage lent check

-- no fault of the UNH, of the UNT, and of both with UNB and the bytes so far is certain
abbrev pub are_heads_sound : Headers → Bool
are_heads_sound headers = headers.identified && not headers.twice && nat_le headers.messages 999

abbrev pub are_trails_sound : Trailers → Bool
are_trails_sound trailers = trailers.within && trailers.counted && trailers.closed

abbrev pub is_sound : EnvelopeCheck → Bool
is_sound check =
    check.header.taken && not check.header.test && not check.outside && are_heads_sound check.headers
    && are_trails_sound check.trailers

abbrev pub is_fine_at : Stage → EnvelopeCheck → Bool
is_fine_at Start check = true
is_fine_at Between check = is_sound check
is_fine_at (Message begun) check = is_sound check
is_fine_at Lost check = false
is_fine_at (Ended None) check = true
is_fine_at (Ended (Some fault)) check = false
is_fine_at Broken check = false

-- no fault is certain
abbrev pub is_fine : EnvelopeCheck → Bool
is_fine check = is_fine_at check.stage check

-- UNB has come, and UNZ has not
abbrev pub IsGoingOn : List Segment → Type 0
IsGoingOn lent = (0 < length lent) × (is_unz (last_segment lent) ≡ false)

-- a message is begun, and its trailer has not come
abbrev pub IsBegun : List Segment → Type 0
IsBegun lent = (list_any is_unh (drop 1 lent) ≡ true) × (is_unt (last_segment lent) ≡ false)

-- the position of a segment after those that have come, of which none is UNZ
abbrev pub Placed : Place → List Segment → Segment → Type 0
Placed place.Refused lent segment = Unit {0}
Placed place.Header lent segment = (lent ≡ []) × (is_unb segment ≡ true) × (is_valid_header segment ≡ true)
Placed place.MessageHeader lent segment = IsGoingOn lent × (is_unh segment ≡ true)
Placed place.Inside lent segment = IsGoingOn lent × IsBegun lent × (is_frame segment ≡ false) × (is_unz segment ≡ false)
Placed place.MessageTrailer lent segment = IsGoingOn lent × IsBegun lent × (is_unt segment ≡ true)
Placed place.Trailer lent segment = IsGoingOn lent × (is_unz segment ≡ true)

-- one more segment
pub record Steps (old : EnvelopeCheck) (stands : Place) (segment : Segment) (new : EnvelopeCheck) : Type 0 where
  pub checked : (lent : List Segment) → Checked lent old → Checked (lent ++ segment ∷ []) new
  pub placed : (lent : List Segment) → Checked lent old → is_fine new ≡ true → Placed stands lent segment
  pub taken : stands ≡ place.Header → is_fine new ≡ true → is_valid_header segment ≡ true
  pub refuses : stands ≡ place.Refused → is_fine new ≡ false
  pub falls : is_fine new ≡ true → is_fine old ≡ true

-- which conditions hold where UNZ comes between messages
abbrev pub marks_at : EnvelopeCheck → Segment → EnvelopeConditions
marks_at check unz = record {
  interchange_header = not check.header.taken;
  message_header = not (check.headers.identified && check.trailers.within);
  segment_count = not check.trailers.counted;
  message_reference = not check.trailers.closed;
  message_count = not (is_count_of (component unz 0 0) check.headers.messages);
  control_reference = not (bytes_eq (filled_reference (component unz 1 0)) check.header.reference);
  repeated_reference = check.headers.twice;
  test_indicator = check.header.test;
  too_many_messages = nat_lt 999 check.headers.messages;
  character_set = check.outside || (check.header.seven_bit && has_high_data unz);
}

-- the fault of what is not a row of messages
abbrev pub lost_fault : HeaderMarks → EnvelopeFault
lost_fault header = if header.taken then MessageFrame else InterchangeHeader

-- the fault with the lowest number, of those that are marked
abbrev pub lowest_of : EnvelopeConditions → Option EnvelopeFault
lowest_of marks =
    if marks.interchange_header then Some InterchangeHeader
    else (if marks.message_header then Some MessageHeader
    else (if marks.segment_count then Some SegmentCount
    else (if marks.message_reference then Some MessageReference
    else (if marks.message_count then Some MessageCount
    else (if marks.control_reference then Some ControlReference
    else (if marks.repeated_reference then Some RepeatedReference
    else (if marks.test_indicator then Some TestIndicator
    else (if marks.too_many_messages then Some TooManyMessages
    else (if marks.character_set then Some CharacterSet
    else None)))))))))
