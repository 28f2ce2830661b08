-- Which byte of a text shows its fault, with its line and its segment.
use Rattle.std.specs.Prelude.{ℕ, ◌+◌, ◌==◌, List, [], ◌∷◌, length, take, filter, Result, Ok, Err}
use Rattle.edi_segments.specs.declared.fault.TokenFault.{TokenFault}
use Rattle.edi_segments.specs.Reading.{Reading, start, step}
use Rattle.edi_segments.specs.Spelling.{text_limit}
use Rattle.edi_places.specs.declared.text.TextPlace.{TextPlace}

-- one of two, by whether a byte shows a fault
abbrev pub unless_fault : {X : Type 0} → X → (Reading → X) → Result Reading TokenFault → X
unless_fault stopped going (Err fault) = stopped
unless_fault stopped going (Ok next) = going next

-- the bytes before the first that shows a fault, or all if none does
abbrev pub front : Reading → List ℕ → List ℕ
front r [] = []
front r (b ∷ bytes) = unless_fault [] (λ next. b ∷ front next bytes) (step r b)

-- what the machine has read of these bytes
abbrev pub reached : Reading → List ℕ → Reading
reached r [] = r
reached r (b ∷ bytes) = unless_fault r (λ next. reached next bytes) (step r b)

-- how many line feeds there are
abbrev pub line_feeds : List ℕ → ℕ
line_feeds bytes = length (filter (λ b. b == 10) bytes)

-- the place after these bytes, in which these segments ended
abbrev pub place_behind : List ℕ → Reading → TextPlace
place_behind before r = record {
  offset = length before;
  line = line_feeds before + 1;
  segment = length r.segments + 1;
}

-- the place of the byte of a text that shows its fault, or of the end of the text; the byte after the longest text
-- shows one, whichever it is
abbrev pub text_place : List ℕ → TextPlace
text_place bytes = place_behind (front start (take text_limit bytes)) (reached start (take text_limit bytes))
