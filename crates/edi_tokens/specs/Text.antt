-- Writes the canonical text of segments (ISO 9735, character sets and structures).
use Rattle.std.specs.Prelude.{ℕ, List, [], ◌∷◌, ◌++◌, drop}
use Rattle.std.specs.List.{flat_map}
use Rattle.edi_segments.specs.declared.segment.Segment.{Segment}
use Rattle.edi_segments.specs.Service.{usual_component, usual_element, usual_release, usual_terminator, una_tag}
pub use Rattle.edi_segments.specs.Text.{is_usual, byte_text, component_text, components_text, element_text, segment_text}

-- the components after the first, a `:` before each
abbrev pub others_text : List (List ℕ) → List ℕ
others_text components = flat_map (λ component. usual_component ∷ component_text component) (drop 1 components)

abbrev pub text : List Segment → List ℕ
text segments = flat_map segment_text segments

-- the service string `UNA:+.? '`, with this decimal mark
abbrev pub una : ℕ → List ℕ
una decimal = una_tag ++ usual_component ∷ usual_element ∷ decimal ∷ usual_release ∷ 32 ∷ usual_terminator ∷ []
