-- What has come of a text, as a machine keeps it that keeps one segment.
use Rattle.std.specs.Prelude.{◌≡◌, ℕ, Bool, true, false, List, [], ◌∷◌, ◌++◌, take, Result, Ok, Err}
use Rattle.edi_segments.specs.declared.machine.Machine.{Machine}
use Rattle.edi_segments.specs.declared.machine.BytePlace as code
use Rattle.edi_segments.specs.declared.machine.BytePlace.TheVariants as at
use Rattle.edi_segments.specs.declared.segment.Segment.{Segment}
use Rattle.edi_segments.specs.declared.segment.Tokens.{Tokens}
use Rattle.edi_segments.specs.declared.fault.TokenFault.{TokenFault}
use Rattle.edi_segments.specs.Reading.{Open, Reading, BytePlace, Outside, InService, InTag, InData, Released, run, step}
use Rattle.edi_segments.specs.Spelling.{without_empty_end}

abbrev pub place_of : code.BytePlace → Machine → BytePlace
place_of at.Outside m = Outside m.fresh
place_of at.InService m = InService (take m.taken m.six)
place_of at.InTag m = InTag m.fresh (take m.taken m.tag)
place_of at.InData m = InData m.open
place_of at.Released m = Released m.open

-- the segments that were lent, with the state of the reader
abbrev pub reading_of : List Segment → Machine → Reading
reading_of lent m = record { service = m.service; segments = lent; place = place_of m.place m }

-- the segment that ended last
abbrev pub segment_of : Open → Segment
segment_of o = record { tag = o.tag; elements = without_empty_end o.elements }

-- the segment that a machine keeps
abbrev pub lent_of : Machine → Segment
lent_of m = segment_of m.«open»

-- what is read after a byte, which may have ended a segment
abbrev pub after : List Segment → Bool → Machine → Reading
after lent true m = reading_of (lent ++ segment_of m.open ∷ []) m
after lent false m = reading_of lent m

abbrev pub tokens_at : List Segment → Machine → Tokens
tokens_at lent m = record { service = m.service; segments = lent }

-- a call answers what reading gives
abbrev pub Gives : {X Y : Type 0} → (X → Y) → Result X TokenFault → Result Y TokenFault → Type 0
Gives view (Ok x) given = given ≡ Ok (view x)
Gives view (Err fault) given = given ≡ Err fault

-- the machine has taken the bytes before the one that shows the fault, in which no segment ended, and no other
pub record StopsAt (old : Machine) (bytes : List ℕ) (fault : TokenFault) (new : Machine) : Type 0 where
  pub front : List ℕ
  pub byte : ℕ
  pub rest : List ℕ
  pub bytes_are : bytes ≡ front ++ byte ∷ rest
  pub taken : run (reading_of [] old) front ≡ Ok (reading_of [] new)
  pub shows : step (reading_of [] new) byte ≡ Err fault
