-- A segment of which one component is another, and bytes that are only added to.
use Rattle.std.specs.Prelude.{◌≡◌, ℕ, List, length, take, slice_set}
use Rattle.edi_segments.specs.declared.segment.Segment.{Segment}
use Rattle.edi_segments.specs.Segment.{element_at}

-- the components of an element with another first one, if there is one
abbrev pub with_first : List (List ℕ) → List ℕ → List (List ℕ)
with_first components first = slice_set components 0 first

-- the elements, one of which has another first component
abbrev pub elements_with : List (List (List ℕ)) → ℕ → List ℕ → List (List (List ℕ))
elements_with elements place first = slice_set elements place (with_first (element_at elements place) first)

abbrev pub with_component : Segment → ℕ → List ℕ → Segment
with_component segment place first = record { tag = segment.tag; elements = elements_with segment.elements place first }

-- the new bytes begin with the old ones
abbrev pub KeepsFront : List ℕ → List ℕ → Type 0
KeepsFront old new = take (length old) new ≡ old
