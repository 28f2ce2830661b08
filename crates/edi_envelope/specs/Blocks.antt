-- The messages between UNB and UNZ, cut before each UNH.
use Rattle.std.specs.Prelude.{List, [], ◌∷◌, if◌then◌else◌}
use Rattle.edi_segments.specs.declared.segment.Segment.{Segment}
use Rattle.edi_envelope.specs.Segments.{is_unh}

-- the segments before the first UNH
abbrev pub before_message : List Segment → List Segment
before_message [] = []
before_message (segment ∷ rest) = if is_unh segment then [] else segment ∷ before_message rest

-- each UNH with the segments before the next one
abbrev pub blocks : List Segment → List (List Segment)
blocks [] = []
blocks (segment ∷ rest) = if is_unh segment then (segment ∷ before_message rest) ∷ blocks rest else blocks rest
