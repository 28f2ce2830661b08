-- Finds segments in a list by their numbers. The first is number 1.
use Rattle.std.specs.Prelude.{ℕ, ◌+◌, Bool, if◌then◌else◌, List, [], ◌∷◌, drop}
use Rattle.std.specs.List.{list_any}
use Rattle.edi_segments.specs.declared.segment.Segment.{Segment}

-- the number of the first segment of a kind, or of all segments if there is none
abbrev pub first_place : (Segment → Bool) → List Segment → ℕ
first_place kind [] = 0
first_place kind (segment ∷ rest) = if kind segment then 1 else 1 + first_place kind rest

-- the first segment from which something holds says by its own count which segment shows it: the number of that one
abbrev pub place_from : (List Segment → Bool) → (List Segment → ℕ) → List Segment → ℕ
place_from holds number [] = 0
place_from holds number (segment ∷ rest) =
    if holds (segment ∷ rest) then number (segment ∷ rest) else 1 + place_from holds number rest

-- the second segment of a kind, or else the first, whose number is given
abbrev pub second_or_first_place : (Segment → Bool) → ℕ → List Segment → ℕ
second_or_first_place kind first segments =
    if list_any kind (drop first segments) then first + first_place kind (drop first segments) else first

-- the second segment of a kind that has to come once, or else the only one, or else another
abbrev pub once_place : (Segment → Bool) → ℕ → List Segment → ℕ
once_place kind other segments =
    if list_any kind segments then second_or_first_place kind (first_place kind segments) segments else other
