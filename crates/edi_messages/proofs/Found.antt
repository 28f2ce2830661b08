-- What was found on the way along the segments.
use Rattle.std.proofs.Common.{◌≡◌, ℕ, Bool, false, List, [], ◌∷◌, filter, Option, Some, None, Bor, refl, ap}
use Rattle.std.specs.List.{list_any}
use Rattle.std.proofs.lemmas.Bool.{or_parts}
use Rattle.edi_envelope.specs.EdiSegments.declared.segment.Segment.{Segment}
use Rattle.edi_messages.specs.Parts.{is_qualified, has_qualified, only, only_qualified}

abbrev pub found_one : Option (Bor Segment) → List Segment
found_one None = []
found_one (Some segment) = segment.now ∷ []

none_left : (p : Segment → Bool) (xs : List Segment) → list_any p xs ≡ false → filter p xs ≡ []
none_left p [] h = refl
none_left p (x ∷ xs) h = let parts = or_parts (p x) (list_any p xs) h in rw parts.0 (none_left p xs parts.1)

-- where there is none, there is not just one
pub no_only : (tag qualifier : List ℕ) (part : List Segment)
    → has_qualified tag qualifier part ≡ false
    → only_qualified tag qualifier part ≡ None
no_only tag qualifier part h = ap only (none_left (is_qualified tag qualifier) part h)
