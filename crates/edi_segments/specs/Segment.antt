-- The places of a segment (ISO 9735, structures).
use Rattle.std.specs.Prelude.{ℕ, List, [], slice_index_or}

-- the components of an element, counted from 0: none if it is absent
abbrev pub element_at : List (List (List ℕ)) → ℕ → List (List ℕ)
element_at elements element = slice_index_or elements element []

-- the bytes of a component, both counted from 0: none if it is absent
abbrev pub component_at : List (List (List ℕ)) → ℕ → ℕ → List ℕ
component_at elements element place = slice_index_or (element_at elements element) place []
