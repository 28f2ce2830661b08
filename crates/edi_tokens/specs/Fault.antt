-- The fault of a text: the number that its earliest showing byte gives.
use Rattle.std.specs.Prelude.{◌≡◌, ◌≢◌, ◌⊎◌, ◌≤◌, ℕ, Bool, true, false, IsTrue, nat_lt, is_none, ◌==◌, ◌&&◌, ◌||◌, List}
use Rattle.std.specs.Prelude.{[], ◌∷◌, ◌++◌, length, map, Option, Some, None, if◌then◌else◌}
use Rattle.edi_segments.specs.declared.segment.Service.{Service}
use Rattle.edi_segments.specs.declared.segment.Segment.{Segment}
use Rattle.edi_segments.specs.declared.fault.TokenFault.{TokenFault}
use Rattle.edi_segments.specs.declared.fault.TokenFault.TheVariants.{TooLong, ServiceString, Byte, Cut, Tag, LongSegment}
use Rattle.edi_segments.specs.Characters.{is_data, is_special, is_capital, is_digit, is_line_end}
use Rattle.edi_segments.specs.Service.{usual, una_tag, service_of}
use Rattle.edi_segments.specs.Spelling.{text_limit, segment_limit, Each, Behind, Before, SpellsComponent, SpellsElement}
use Rattle.edi_segments.specs.Spelling.{SpellsWhole, LineEnds, IsTag, tags, Advice, Advises, without_empty_end}
use Rattle.edi_segments.specs.Reading.{Open, BytePlace, Outside, InService, InTag, InData, Released, Reading, with_release}

-- whether neither a service string nor a segment has come
abbrev pub is_fresh : Option Advice → List Segment → Bool
is_fresh None [] = true
is_fresh None (first ∷ others) = false
is_fresh (Some a) segments = false

-- whole segments, and whether a service string may still come
pub record EndsOutside (text : List ℕ) (s : Service) (segments : List Segment) (fresh : Bool) : Type 0 where
  pub whole : SpellsWhole text s segments
  pub fresh_is : fresh ≡ is_fresh whole.advice segments

-- `UNA` and at most five of its characters
pub record EndsInService (text : List ℕ) (s : Service) (segments : List Segment) (six : List ℕ) : Type 0 where
  pub before : List ℕ
  pub text_is : text ≡ before ++ (una_tag ++ six)
  pub before_is : LineEnds before
  pub is_cut : length six ≤ 5
  pub service_is : s ≡ usual
  pub none_yet : segments ≡ []

-- the first one to three bytes of a tag
abbrev pub IsTagFront : List ℕ → Type 0
IsTagFront (a ∷ []) = IsTrue (is_capital a)
IsTagFront (a ∷ b ∷ []) = IsTrue (is_capital a) × IsTrue (is_capital b || is_digit b)
IsTagFront (a ∷ b ∷ c ∷ []) = IsTag (a ∷ b ∷ c ∷ [])
IsTagFront _ = ⊥

pub record EndsInTag (text : List ℕ) (s : Service) (segments : List Segment) (fresh : Bool)
    (tag : List ℕ) : Type 0 where
  pub before : List ℕ
  pub text_is : text ≡ before ++ tag
  pub before_ends : EndsOutside before s segments fresh
  pub tag_is : IsTagFront tag
  pub no_advice : fresh ≡ true → tag ≢ una_tag

-- a segment whose data has begun: the tag, closed elements, and an element separator with the open element, in which
-- each closed component comes before a component separator
pub record SpellsOpen (s : Service) (text : List ℕ) (o : Open) : Type 0 where
  pub closed : List ℕ
  pub written : List (List (List ℕ))
  pub front : List ℕ
  pub back : List ℕ
  pub text_is : text ≡ (o.tag ++ closed) ++ s.element ∷ (front ++ back)
  pub tag_is : IsTag o.tag
  pub closed_spells : Each (Behind s.element (SpellsElement s)) closed written
  pub elements_are : o.elements ≡ map without_empty_end written
  pub front_spells : Each (Before s.component (SpellsComponent s)) front o.element
  pub back_spells : SpellsComponent s back o.component
  pub length_is : o.length ≡ length text
  pub is_short : length text ≤ segment_limit

-- whole segments, and a segment whose data has begun
pub record EndsInData (text : List ℕ) (s : Service) (segments : List Segment) (o : Open) : Type 0 where
  pub before : List ℕ
  pub segment : List ℕ
  pub text_is : text ≡ before ++ segment
  pub whole : SpellsWhole before s segments
  pub no_advice : Advises whole.advice s (tags segments ++ o.tag ∷ [])
  pub segment_spells : SpellsOpen s segment o

-- then a release character
pub record EndsReleased (text : List ℕ) (s : Service) (segments : List Segment) (o : Open) : Type 0 where
  pub front : List ℕ
  pub release : ℕ
  pub data_before : Open
  pub text_is : text ≡ front ++ release ∷ []
  pub front_ends : EndsInData front s segments data_before
  pub release_is : s.release ≡ Some release
  pub open_is : o ≡ with_release data_before
  pub is_short : o.length ≤ segment_limit

-- the text is a prefix of a valid one, and ends at this place
abbrev pub EndsAt : List ℕ → Service → List Segment → BytePlace → Type 0
EndsAt text s segments (Outside fresh) = EndsOutside text s segments fresh
EndsAt text s segments (InService six) = EndsInService text s segments six
EndsAt text s segments (InTag fresh tag) = EndsInTag text s segments fresh tag
EndsAt text s segments (InData o) = EndsInData text s segments o
EndsAt text s segments (Released o) = EndsReleased text s segments o

abbrev pub EndsIn : List ℕ → Reading → Type 0
EndsIn text r = EndsAt text r.service r.segments r.place

-- what the next byte shows at a place
abbrev pub shown_at : Service → BytePlace → ℕ → Option TokenFault
shown_at s (Outside fresh) b = if is_line_end b || is_capital b then None else Some Tag
shown_at s (InService six) b = if length six == 5 && is_none (service_of (six ++ b ∷ [])) then Some ServiceString
    else None
shown_at s (InTag fresh tag) b =
    if (if nat_lt (length tag) 3 then is_capital b || is_digit b else b == s.element || b == s.terminator) then None
    else Some Tag
shown_at s (InData o) b = if o.length == segment_limit then Some LongSegment
    else (if is_special s b || is_data b then None else Some Byte)
shown_at s (Released o) b = if o.length == segment_limit then Some LongSegment
    else (if is_data b then None else Some Byte)

-- byte 1,048,577 shows that the text is too long, whichever it is
abbrev pub shown : List ℕ → Reading → ℕ → Option TokenFault
shown front r b = if length front == text_limit then Some TooLong else shown_at r.service r.place b

-- what the end of the text shows at a place
abbrev pub shown_by_end : BytePlace → Option TokenFault
shown_by_end (Outside fresh) = None
shown_by_end (InService six) = Some ServiceString
shown_by_end (InTag fresh tag) = Some Cut
shown_by_end (InData o) = Some Cut
shown_by_end (Released o) = Some Cut

-- after a front that shows nothing, the next byte shows the fault
pub record ByteShows (text : List ℕ) (fault : TokenFault) : Type 0 where
  pub front : List ℕ
  pub byte : ℕ
  pub rest : List ℕ
  pub reading : Reading
  pub text_is : text ≡ front ++ byte ∷ rest
  pub front_ends : EndsIn front reading
  pub is_first : length front ≤ text_limit
  pub shows : shown front reading byte ≡ Some fault

-- no byte shows a fault, and the end does
pub record EndShows (text : List ℕ) (fault : TokenFault) : Type 0 where
  pub reading : Reading
  pub text_ends : EndsIn text reading
  pub is_short : length text ≤ text_limit
  pub shows : shown_by_end reading.place ≡ Some fault

abbrev pub Shows : List ℕ → TokenFault → Type 0
Shows text fault = ByteShows text fault ⊎ EndShows text fault
