-- What any bytes are read as: the segments, or the fault that the earliest byte shows.
use Rattle.std.specs.Prelude.{◌≡◌, ℕ, ◌+◌, Bool, true, false, not, ◌==◌, nat_lt, ◌&&◌, ◌||◌, List, [], ◌∷◌, ◌++◌, length}
use Rattle.std.specs.Prelude.{take, Option, Some, None, Result, Ok, Err, if◌then◌else◌}
use Rattle.edi_segments.specs.declared.segment.Service.{Service}
use Rattle.edi_segments.specs.declared.segment.Segment.{Segment}
use Rattle.edi_segments.specs.declared.segment.Tokens.{Tokens}
use Rattle.edi_segments.specs.declared.fault.TokenFault.{TokenFault}
use Rattle.edi_segments.specs.declared.fault.TokenFault.TheVariants.{TooLong, ServiceString, Byte, Cut, Tag, LongSegment}
use Rattle.edi_segments.specs.declared.fault.TokenFault.TheVariants.{Memory}
use Rattle.edi_segments.specs.Characters.{is_data, is_special, is_capital, is_digit, is_line_end}
use Rattle.edi_segments.specs.Service.{usual, service_of}
use Rattle.edi_segments.specs.Spelling.{text_limit, segment_limit, without_empty_end}

-- what has come of a segment after its tag: the elements that are closed, the closed components of the open
-- element, the open component, and the number of bytes
pub record Open : Type 0 where
  pub tag : List ℕ
  pub elements : List (List (List ℕ))
  pub element : List (List ℕ)
  pub component : List ℕ
  pub length : ℕ

-- where the bytes so far end: outside of segments (and whether a service string may still come here), among the six
-- characters of a service string, in a tag or right after it, in data, after a release character
pub data BytePlace : Type 0 where
  Outside : (fresh : Bool) → BytePlace
  InService : (six : List ℕ) → BytePlace
  InTag : (fresh : Bool) → (tag : List ℕ) → BytePlace
  InData : (open_segment : Open) → BytePlace
  Released : (open_segment : Open) → BytePlace

-- whether no service string can come here any more
abbrev pub is_settled : BytePlace → Bool
is_settled (Outside fresh) = not fresh
is_settled (InService six) = false
is_settled (InTag fresh tag) = not fresh
is_settled (InData o) = true
is_settled (Released o) = true

-- what has come of a text
pub record Reading : Type 0 where
  pub service : Service
  pub segments : List Segment
  pub place : BytePlace

abbrev pub start : Reading
start = record { service = usual; segments = []; place = Outside true }

infixl 10 ◌>>=◌
abbrev pub ◌>>=◌ : {A B : Type 0} → Result A TokenFault → (A → Result B TokenFault) → Result B TokenFault
(Ok x) >>= f = f x
(Err e) >>= f = Err e

abbrev pub at : Reading → BytePlace → Reading
at r place = record { service = r.service; segments = r.segments; place = place }

-- one more segment
abbrev pub ended : Reading → List ℕ → List (List (List ℕ)) → Reading
ended r tag elements =
    record {
      service = r.service;
      segments = r.segments ++ record { tag = tag; elements = elements } ∷ [];
      place = Outside false;
    }

-- the elements with the open one closed
abbrev pub closed_elements : Open → List (List (List ℕ))
closed_elements o = o.elements ++ without_empty_end (o.element ++ o.component ∷ []) ∷ []

abbrev pub with_tag : List ℕ → Open
with_tag tag = record { tag = tag; elements = []; element = []; component = []; length = 4 }

abbrev pub with_byte : Open → ℕ → Open
with_byte o b =
    record {
      tag = o.tag;
      elements = o.elements;
      element = o.element;
      component = o.component ++ b ∷ [];
      length = o.length + 1;
    }

abbrev pub with_component : Open → Open
with_component o =
    record {
      tag = o.tag;
      elements = o.elements;
      element = o.element ++ o.component ∷ [];
      component = [];
      length = o.length + 1;
    }

abbrev pub with_element : Open → Open
with_element o =
    record { tag = o.tag; elements = closed_elements o; element = []; component = []; length = o.length + 1 }

abbrev pub with_release : Open → Open
with_release o =
    record { tag = o.tag; elements = o.elements; element = o.element; component = o.component; length = o.length + 1 }

-- the next byte, outside of segments
abbrev pub step_outside : Reading → Bool → ℕ → Result Reading TokenFault
step_outside r fresh b =
    if is_line_end b then Ok (at r (Outside fresh))
    else if is_capital b then Ok (at r (InTag fresh (b ∷ [])))
    else Err Tag

abbrev pub adopt : Reading → Option Service → Result Reading TokenFault
adopt r None = Err ServiceString
adopt r (Some s) = Ok (record { service = s; segments = r.segments; place = Outside false })

-- the next of six service characters; the sixth shows whether they are valid
abbrev pub step_service : Reading → List ℕ → ℕ → Result Reading TokenFault
step_service r six b = if nat_lt (length six) 5 then Ok (at r (InService (six ++ b ∷ [])))
    else adopt r (service_of (six ++ b ∷ []))

abbrev pub is_una : List ℕ → Bool
is_una (a ∷ b ∷ c ∷ []) = (a == 85 && b == 78) && c == 65
is_una _ = false

abbrev pub tag_or_service : Reading → Bool → List ℕ → BytePlace
tag_or_service r fresh tag = if fresh && is_una tag then InService [] else InTag fresh tag

-- the next byte of a tag, or the byte after it
abbrev pub step_tag : Reading → Bool → List ℕ → ℕ → Result Reading TokenFault
step_tag r fresh tag b =
    if nat_lt (length tag) 3
    then (if is_capital b || is_digit b then Ok (at r (tag_or_service r fresh (tag ++ b ∷ []))) else Err Tag)
    else (if b == r.service.element then Ok (at r (InData (with_tag tag)))
    else (if b == r.service.terminator then Ok (ended r tag []) else Err Tag))

-- the next byte of a segment, in data
abbrev pub step_data : Reading → Open → ℕ → Result Reading TokenFault
step_data r o b =
    if is_special r.service b
    then (if b == r.service.component then Ok (at r (InData (with_component o)))
    else (if b == r.service.element then Ok (at r (InData (with_element o)))
    else (if b == r.service.terminator then Ok (ended r o.tag (without_empty_end (closed_elements o)))
    else Ok (at r (Released (with_release o))))))
    else (if is_data b then Ok (at r (InData (with_byte o b))) else Err Byte)

abbrev pub step_released : Reading → Open → ℕ → Result Reading TokenFault
step_released r o b = if is_data b then Ok (at r (InData (with_byte o b))) else Err Byte

-- no byte comes after as many as a segment may have
abbrev pub within : Open → Result Reading TokenFault → Result Reading TokenFault
within o next = if o.length == segment_limit then Err LongSegment else next

abbrev pub step_at : Reading → BytePlace → ℕ → Result Reading TokenFault
step_at r (Outside fresh) b = step_outside r fresh b
step_at r (InService six) b = step_service r six b
step_at r (InTag fresh tag) b = step_tag r fresh tag b
step_at r (InData o) b = within o (step_data r o b)
step_at r (Released o) b = within o (step_released r o b)

abbrev pub step : Reading → ℕ → Result Reading TokenFault
step r b = step_at r r.place b

-- the bytes, one after another
abbrev pub run : Reading → List ℕ → Result Reading TokenFault
run r [] = Ok r
run r (b ∷ bytes) = step r b >>= λ next. run next bytes

-- what the text is if it ends here
abbrev pub finish_at : Reading → BytePlace → Result Tokens TokenFault
finish_at r (Outside fresh) = Ok (record { service = r.service; segments = r.segments })
finish_at r (InService six) = Err ServiceString
finish_at r (InTag fresh tag) = Err Cut
finish_at r (InData o) = Err Cut
finish_at r (Released o) = Err Cut

abbrev pub finish : Reading → Result Tokens TokenFault
finish r = finish_at r r.place

-- the service characters and segments of a text, or its fault
abbrev pub tokens_of : List ℕ → Result Tokens TokenFault
tokens_of bytes = run start (take text_limit bytes) >>= λ r. if nat_lt text_limit (length bytes) then Err TooLong
    else finish r

-- What a call answered is what reading gives, unless memory ran out.
abbrev pub GivesFault : {Y : Type 0} → TokenFault → Result Y TokenFault → Type 0
GivesFault Memory given = Unit {0}
GivesFault fault given = given ≡ Err fault

abbrev pub GivesValue : {X Y : Type 0} → (X → Y) → Result X TokenFault → Result Y TokenFault → Type 0
GivesValue view (Ok x) given = given ≡ Ok (view x)
GivesValue view (Err fault) given = GivesFault fault given
