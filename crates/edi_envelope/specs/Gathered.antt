-- What is kept of the segments that have come of an interchange.
use Rattle.std.specs.Prelude.{◌≡◌, ◌≢◌, ℕ, Bool, false, true, List, [], ◌∷◌, ◌++◌, map, drop, Option, Some, None}
use Rattle.std.specs.Prelude.{Result, Ok, Err}
use Rattle.std.specs.List.{list_any}
use Rattle.edi_segments.specs.declared.segment.Segment.{Segment}
use Rattle.edi_tokens.specs.declared.lender.Lender.{Lender}
use Rattle.edi_segments.specs.declared.fault.TokenFault.TheVariants as token
use Rattle.edi_segments.specs.Reading.{tokens_of}
use Rattle.edi_segments.specs.Machine.{tokens_at}
use Rattle.edi_tokens.specs.Lender.{AtEnd, Came, Fed, HasCause, TakesOf, room_of, stopped}
use Rattle.edi_envelope.specs.declared.fault.EnvelopeFault.{EnvelopeFault}
use Rattle.edi_envelope.specs.declared.fault.EnvelopeFault.TheVariants as envelope
use Rattle.edi_envelope.specs.declared.fault.OpenFault.{OpenFault}
use Rattle.edi_envelope.specs.declared.fault.OpenFault.TheVariants.{Token, Envelope}
use Rattle.edi_envelope.specs.declared.interchange.Head.{Head}
use Rattle.edi_envelope.specs.declared.interchange.Interchange.{Interchange}
use Rattle.edi_envelope.specs.declared.opening.Opening.{Opening}
use Rattle.edi_envelope.specs.Interchange.{messages_in}
use Rattle.edi_envelope.specs.Check.{Checked, is_fine}
use Rattle.edi_envelope.specs.declared.gathering.Gathered.{Gathered}
use Rattle.edi_envelope.specs.Segments.{is_unh, is_unz, last_segment}
use Rattle.edi_envelope.specs.Header.{head_of}
use Rattle.edi_envelope.specs.Blocks.{blocks}
use Rattle.edi_envelope.specs.Message.{message_of}

-- what the first of them says, if there is one
abbrev pub head_in : List Segment → Option Head
head_in [] = None
head_in (unb ∷ rest) = Some (head_of unb)

-- UNH and what follows it; nothing if no UNH has come
abbrev pub IsLast : List Segment → List Segment → Type 0
IsLast before [] = before ≡ []
IsLast before (unh ∷ rest) = (is_unh unh ≡ true) × (list_any is_unh rest ≡ false)

-- the head, the messages before the last UNH, and the segments from it on
pub record KeepsMessages (lent : List Segment) (gathered : Gathered) : Type 0 where
  pub head : gathered.head ≡ head_in lent
  pub before : List Segment
  pub split : drop 1 lent ≡ before ++ gathered.last.items
  pub last : IsLast before gathered.last.items
  pub messages : gathered.messages.items ≡ map message_of (blocks before)

-- the head and all messages
pub record HasAllMessages (lent : List Segment) (gathered : Gathered) : Type 0 where
  pub head : gathered.head ≡ head_in lent
  pub last : gathered.last.items ≡ []
  pub messages : gathered.messages.items ≡ map message_of (blocks (drop 1 lent))

-- the messages before UNZ, which is the last segment
pub record EndsMessages (lent : List Segment) (gathered : Gathered) : Type 0 where
  pub head : gathered.head ≡ head_in lent
  pub messages : gathered.messages.items ≡ map message_of (messages_in lent)

-- what is kept of segments, of which at most the last is UNZ
pub record Gathers (lent : List Segment) (gathered : Gathered) : Type 0 where
  pub going : is_unz (last_segment lent) ≡ false → KeepsMessages lent gathered
  pub ended : is_unz (last_segment lent) ≡ true → EndsMessages lent gathered

-- the interchange of what is kept
pub record IsInterchangeOf (gathered : Gathered) (decimal : ℕ) (interchange : Interchange) : Type 0 where
  pub decimal_is : interchange.decimal ≡ decimal
  pub head : gathered.head ≡ Some interchange.head
  pub messages : interchange.messages ≡ gathered.messages.items

-- the check of segments, and what is kept of them as long as no fault is certain
pub record OpeningStands (lent : List Segment) (opening : Opening) : Type 0 where
  pub checked : Checked lent opening.check
  pub kept : is_fine opening.check ≡ true → Gathers lent opening.gathered

-- what was answered is this
abbrev pub IsChecked : Result Interchange EnvelopeFault → Result Interchange EnvelopeFault → Type 0
IsChecked (Ok interchange) given = given ≡ Ok interchange
IsChecked (Err fault) given = given ≡ Err fault

-- all segments of a text are opened, or its token fault is reported, or a read failed, or memory ran out
abbrev pub ReadsOpening : Option (List ℕ) → Lender → Result Opening OpenFault → Lender → Type 0
ReadsOpening known old (Ok opening) new =
    (lent : List Segment) × OpeningStands lent opening
    × ((all : List ℕ) → Fed known all [] old → tokens_of all ≡ Ok (tokens_at lent new.machine))
ReadsOpening known old (Err (Token fault)) new = (all : List ℕ) → Fed known all [] old → fault ≢ token.Read → tokens_of all ≡ Err fault
ReadsOpening known old (Err (Envelope fault)) new = fault ≡ envelope.Memory

-- for some text, if no bytes of the reader are known
abbrev pub ReadsSome : Lender → Result Opening OpenFault → Lender → Type 0
ReadsSome old (Ok opening) new =
    Came [] old → (lent : List Segment) × OpeningStands lent opening × ((all : List ℕ) × (tokens_of all ≡ Ok (tokens_at lent new.machine)))
ReadsSome old (Err (Token fault)) new = Came [] old → fault ≢ token.Read → (all : List ℕ) × (tokens_of all ≡ Err fault)
ReadsSome old (Err (Envelope fault)) new = fault ≡ envelope.Memory

-- a failed read is reported if the reader's flag is up, and otherwise the flag stays; no token fault is out of memory
abbrev pub OpenFaultHasCause : {X : Type 0} → Result X OpenFault → Bool → Bool → Type 0
OpenFaultHasCause (Ok x) old new = new ≡ old
OpenFaultHasCause (Err (Token fault)) old new = HasCause fault old new
OpenFaultHasCause (Err (Envelope fault)) old new = new ≡ old

-- how far a text has been read, and its segments are opened
pub record HasRead (before after : Option (List ℕ)) (was failed : Bool) (old : Lender) (opening : Opening) (new : Lender) : Type 0 where
  pub lent : List Segment
  pub stands : OpeningStands lent opening
  pub fed : (all : List ℕ) → Fed before all [] old → Fed after all lent new
  pub some : Came [] old → Came lent new
  pub flag : stopped old ≡ None → failed ≡ was
  pub going : stopped old ≡ None → stopped new ≡ None
  pub bound : TakesOf before after (room_of old) (room_of new)
  pub ends : AtEnd before old → AtEnd after new
