-- The canonical text of segments (ISO 9735, character sets and structures): the usual service characters `:` `+` `?`
-- `'`, a release character before each of them in data and nowhere else, no line ends.
use Rattle.std.specs.Prelude.{ℕ, Bool, ◌==◌, ◌||◌, List, [], ◌∷◌, ◌++◌, if◌then◌else◌}
use Rattle.std.specs.List.{flat_map}
use Rattle.edi_segments.specs.declared.segment.Segment.{Segment}
use Rattle.edi_segments.specs.Service.{usual_component, usual_element, usual_release, usual_terminator}
use Rattle.edi_segments.specs.Reading.{Open}

-- `:` `+` `?` or `'`
abbrev pub is_usual : ℕ → Bool
is_usual b = b == usual_component || b == usual_element || b == usual_terminator || b == usual_release

abbrev pub byte_text : ℕ → List ℕ
byte_text b = if is_usual b then usual_release ∷ b ∷ [] else b ∷ []

abbrev pub component_text : List ℕ → List ℕ
component_text component = flat_map byte_text component

-- the components, with `:` between them
abbrev pub components_text : List (List ℕ) → List ℕ
components_text [] = []
components_text (first ∷ others) =
    component_text first ++ flat_map (λ component. usual_component ∷ component_text component) others

-- `+`, and the components
abbrev pub element_text : List (List ℕ) → List ℕ
element_text components = usual_element ∷ components_text components

-- the tag, the elements, `'`
abbrev pub segment_text : Segment → List ℕ
segment_text segment = segment.tag ++ flat_map element_text segment.elements ++ usual_terminator ∷ []

-- the canonical text of an open segment so far: the open element comes after those that are closed
abbrev pub open_text : Open → List ℕ
open_text o = o.tag ++ (flat_map element_text o.elements ++ element_text (o.element ++ o.component ∷ []))
