-- How far a text has been read and its segments lent, and what a call returns.
use Rattle.std.specs.Prelude.{◌≡◌, ◌≢◌, ◌⊎◌, ℕ, ◌+◌, ◌<◌, ◌≤◌, Bool, true, false, List, [], ◌∷◌, ◌++◌, length, take}
use Rattle.std.specs.Prelude.{Option, Some, None, Result, Ok, Err, IfErr, IfSome, OnOk, if◌then◌else◌}
use Rattle.std.specs.Io.KnownBytes.{Consumes, IsAtEnd}
use Rattle.edi_tokens.specs.declared.lender.Lender.{Lender}
use Rattle.edi_tokens.specs.declared.lender.Tail.{Tail}
use Rattle.edi_tokens.specs.declared.lender.Tail.TheVariants.{More, Within, End, Long, Failed}
use Rattle.edi_segments.specs.declared.segment.Service.{Service}
use Rattle.edi_segments.specs.declared.segment.Segment.{Segment}
use Rattle.edi_segments.specs.declared.fault.TokenFault.{TokenFault}
use Rattle.edi_segments.specs.declared.fault.TokenFault.TheVariants.{TooLong, ServiceString, Byte, Cut, Tag, LongSegment, Read, Memory}
use Rattle.edi_segments.specs.Spelling.{text_limit}
use Rattle.edi_segments.specs.Reading.{start, run, finish, is_settled, tokens_of}
use Rattle.edi_segments.specs.Machine.{lent_of, place_of, reading_of, tokens_at}

-- of the bytes of a reader this many are left of a text, or fewer at their end
pub record HasLeft (known : Option (List ℕ)) (left : List ℕ) (room : ℕ) : Type 0 where
  pub bytes : List ℕ
  pub known_is : known ≡ Some bytes
  pub left_is : left ≡ take room bytes

-- how a text continues after the bytes that were read: this many were read, and this many more may be
abbrev pub GoesOn : Tail → Option (List ℕ) → List ℕ → ℕ → ℕ → Type 0
GoesOn More known left room count = (known ≡ Some left) × (room + count ≡ text_limit + 1) × (0 < room)
GoesOn Within known left room count = HasLeft known left room × (room + count ≤ text_limit) × (0 < room)
GoesOn End known left room count = (left ≡ []) × (count ≤ text_limit)
GoesOn Long known left room count = (0 < length left) × (count ≡ text_limit)
GoesOn (Failed fault) known left room count = ⊥

-- Some bytes of a text are taken: the segments that were lent and a prefix of the next one. After them come those that
-- were read, and those that are left. These bytes of its reader are known.
pub record Fed (known : Option (List ℕ)) (all : List ℕ) (lent : List Segment) (l : Lender) : Type 0 where
  pub taken : List ℕ
  pub left : List ℕ
  pub all_is : all ≡ taken ++ (l.piece ++ left)
  pub read_as : run start taken ≡ Ok (reading_of lent l.machine)
  pub goes_on : GoesOn l.tail known left l.room (length taken + length l.piece)

-- more bytes may be read
abbrev pub MayRead : Tail → Type 0
MayRead More = Unit {0}
MayRead Within = Unit {0}
MayRead _ = ⊥

-- the fault that is answered for good
abbrev pub stopped_by : Tail → Option TokenFault
stopped_by More = None
stopped_by Within = None
stopped_by End = None
stopped_by Long = None
stopped_by (Failed fault) = Some fault

abbrev pub stopped : Lender → Option TokenFault
stopped l = stopped_by l.tail

-- how many bytes may still be read
abbrev pub room_of : Lender → ℕ
room_of l = l.room

-- how many bytes were read and are not taken, or may still be read
abbrev pub unread : Lender → ℕ
unread l = l.room + length l.piece

-- once the reader has ended, none of its known bytes is left, or none may be read
abbrev pub AtEnd : Option (List ℕ) → Lender → Type 0
AtEnd known l = l.ended ≡ true → IsAtEnd known ⊎ (l.room ≡ 0)

-- nothing is read yet, and this many bytes may be read
pub record HasReadNothing (l : Lender) (room : ℕ) : Type 0 where
  pub room_is : room_of l ≡ room
  pub going : stopped l ≡ None
  pub ends : (known : Option (List ℕ)) → AtEnd known l

-- the segment that ended last
abbrev pub lent_by : Lender → Segment
lent_by l = lent_of l.machine

-- the service characters, once no service string can come any more
abbrev pub known_service : Lender → Option Service
known_service l = if is_settled (place_of l.machine.place l.machine) then Some l.machine.service else None

-- the decimal mark of the service characters, as far as they are known
abbrev pub decimal_of : Lender → ℕ
decimal_of l = l.machine.service.decimal

-- what a call says about a text: one more segment, its end, or its fault
abbrev pub TellsNext : Option (List ℕ) → List ℕ → List Segment → Result (Option Segment) TokenFault → Lender → Type 0
TellsNext known all lent (Ok (Some segment)) l = Fed known all (lent ++ segment ∷ []) l
TellsNext known all lent (Ok None) l = Fed known all lent l × (tokens_of all ≡ Ok (tokens_at lent l.machine))
TellsNext known all lent (Err fault) l = fault ≢ Read → tokens_of all ≡ Err fault

-- what was read is taken: to the end of a segment, to its last byte, or to a fault
abbrev pub Took : Option (List ℕ) → List ℕ → List Segment → Result Bool TokenFault → Lender → Type 0
Took known all lent (Ok true) l = Fed known all (lent ++ lent_by l ∷ []) l
Took known all lent (Ok false) l = Fed known all lent l
Took known all lent (Err fault) l = tokens_of all ≡ Err fault

-- bytes were read, or the text ends there, or a fault shows
abbrev pub TellsRefill : Option (List ℕ) → List ℕ → List Segment → Result Bool TokenFault → Lender → Type 0
TellsRefill known all lent (Ok true) l = Fed known all lent l
TellsRefill known all lent (Ok false) l = Fed known all lent l × (tokens_of all ≡ finish (reading_of lent l.machine))
TellsRefill known all lent (Err fault) l = fault ≢ Read → tokens_of all ≡ Err fault

-- Some bytes have come, whatever is known of the reader: of some text, of which these segments were lent.
pub record Came (lent : List Segment) (l : Lender) : Type 0 where
  pub known : Option (List ℕ)
  pub all : List ℕ
  pub fed : Fed known all lent l

-- what a call says about some text: one more segment, its end, or its fault
abbrev pub TellsSome : List Segment → Result (Option Segment) TokenFault → Lender → Type 0
TellsSome lent (Ok (Some segment)) l = Came (lent ++ segment ∷ []) l
TellsSome lent (Ok None) l = Came lent l × ((all : List ℕ) × (tokens_of all ≡ Ok (tokens_at lent l.machine)))
TellsSome lent (Err fault) l = fault ≢ Read → (all : List ℕ) × (tokens_of all ≡ Err fault)

-- of some text what was read is taken: to the end of a segment, to its last byte, or to a fault
abbrev pub FitsSome : List Segment → Result Bool TokenFault → Lender → Type 0
FitsSome lent (Ok true) l = Came (lent ++ lent_by l ∷ []) l
FitsSome lent (Ok false) l = Came lent l
FitsSome lent (Err fault) l = fault ≢ Read → (all : List ℕ) × (tokens_of all ≡ Err fault)

-- of some text bytes were read, or it ends there, or its fault shows
abbrev pub FillsSome : List Segment → Result Bool TokenFault → Lender → Type 0
FillsSome lent (Ok true) l = Came lent l
FillsSome lent (Ok false) l = Came lent l × ((all : List ℕ) × (tokens_of all ≡ finish (reading_of lent l.machine)))
FillsSome lent (Err fault) l = fault ≢ Read → (all : List ℕ) × (tokens_of all ≡ Err fault)

-- bytes of a reader were taken, and there is room for as many fewer
pub record TakesOf (old new : Option (List ℕ)) (room left : ℕ) : Type 0 where
  pub front : List ℕ
  pub consumed : Consumes old new front
  pub counted : length front + left ≡ room

-- a fault that a text can have
abbrev pub IsOfText : TokenFault → Type 0
IsOfText TooLong = Unit {0}
IsOfText ServiceString = Unit {0}
IsOfText Byte = Unit {0}
IsOfText Cut = Unit {0}
IsOfText Tag = Unit {0}
IsOfText LongSegment = Unit {0}
IsOfText Read = ⊥
IsOfText Memory = ⊥

-- a fault of the text, or the reader's, whose flag is then up
abbrev pub HasCause : TokenFault → Bool → Bool → Type 0
HasCause TooLong old new = new ≡ old
HasCause ServiceString old new = new ≡ old
HasCause Byte old new = new ≡ old
HasCause Cut old new = new ≡ old
HasCause Tag old new = new ≡ old
HasCause LongSegment old new = new ≡ old
HasCause Read old new = new ≡ true
HasCause Memory old new = ⊥

-- a fault has a cause, and else the reader's flag stays
abbrev pub FaultHasCause : {X : Type 0} → Result X TokenFault → Bool → Bool → Type 0
FaultHasCause (Ok x) old new = new ≡ old
FaultHasCause (Err fault) old new = HasCause fault old new

-- What a call returns, for the bytes that are known of its reader before and after it, and for the reader's flag:
-- before a fault was reported, and after. If no bytes are known, they are those of some text.
pub record Feeds (before after : Option (List ℕ)) (was failed : Bool) (old : Lender)
    (result : Result (Option Segment) TokenFault) (new : Lender) : Type 0 where
  pub told : (all : List ℕ) (lent : List Segment) → Fed before all lent old → TellsNext after all lent result new
  pub some : (lent : List Segment) → Came lent old → TellsSome lent result new
  pub flag : stopped old ≡ None → FaultHasCause result was failed
  pub bound : TakesOf before after (room_of old) (room_of new)
  pub ends : AtEnd before old → AtEnd after new
  pub goes_on : OnOk result (stopped new ≡ None)
  pub stops : IfErr result (λ fault. stopped new ≡ Some fault)
  pub for_good : IfSome (stopped old) (λ fault. (result ≡ Err fault) × (new ≡ old))

-- what was answered, and the segment that was lent with it
abbrev pub answered : Result Bool TokenFault → Lender → Result (Option Segment) TokenFault
answered (Ok true) l = Ok (Some (lent_by l))
answered (Ok false) l = Ok None
answered (Err fault) l = Err fault

-- The rest of a reader's bytes was read, to their end or as far as there was room, and this many fewer came. At a
-- failed read no more was taken.
abbrev pub ReadsAway : {E : Type 0} → Option (List ℕ) → Option (List ℕ) → Lender → Result ℕ E → Type 0
ReadsAway before after l (Ok missing) =
    TakesOf before after (room_of l) missing × (AtEnd before l → IsAtEnd after ⊎ (missing ≡ 0))
ReadsAway before after l (Err e) = (left : ℕ) × TakesOf before after (room_of l) left
