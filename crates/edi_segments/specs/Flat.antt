-- Lists that follow one another in one list, with the place where each ends.
use Rattle.std.specs.Prelude.{◌≡◌, ℕ, ◌+◌, ◌-◌, ◌≤◌, ◌<◌, ◌⊎◌, List, [], ◌∷◌, length, take, drop}
use Rattle.edi_segments.specs.Spelling.{segment_limit, without_empty_end}
use Rattle.edi_segments.specs.Reading.{Open}

-- the lists that end at these places, of a list whose first item is at `low`
abbrev pub cut_from : {A : Type 0} → ℕ → List ℕ → List A → List (List A)
cut_from low [] xs = []
cut_from low (end ∷ ends) xs = take (end - low) xs ∷ cut_from end ends (drop (end - low) xs)

abbrev pub cut : {A : Type 0} → List ℕ → List A → List (List A)
cut ends xs = cut_from 0 ends xs

-- places that rise from `low` on, the last of them `high`
abbrev pub Rise : ℕ → List ℕ → ℕ → Type 0
Rise low [] high = low ≡ high
Rise low (end ∷ ends) high = (low ≤ end) × Rise end ends high

-- without the empty ones at the end, this many of the lists are left
pub record IsKept {A : Type 0} (kept : ℕ) (lists : List (List A)) : Type 0 where
  pub within : kept ≤ length lists
  pub front : without_empty_end lists ≡ take kept lists

-- how many are left without the empty ones at the end, if the last of `count` extends from one place to another
abbrev pub IsLeft : ℕ → ℕ → ℕ → ℕ → ℕ → Type 0
IsLeft kept count from to left = ((to ≤ from) × (left ≡ kept)) ⊎ ((from < to) × (left ≡ count))

-- the bytes, where components end and where elements end (counted in components); where the open component and
-- the open element begin; how many components are left of what has come without the empty ones at the end of the
-- open element, and how many elements
pub record IsFlat (bytes component_ends element_ends : List ℕ) (component_from element_from : ℕ)
    (components_kept elements_kept : ℕ) : Type 0 where
  pub components_rise : Rise 0 component_ends component_from
  pub kept_rise : Rise 0 (take components_kept component_ends) component_from
  pub component_within : component_from ≤ length bytes
  pub elements_rise : Rise 0 element_ends element_from
  pub element_within : element_from ≤ components_kept
  pub kept_within : components_kept ≤ length component_ends
  pub components_left : IsKept (components_kept - element_from) (drop element_from (cut component_ends bytes))
  pub elements_left : IsKept elements_kept (cut element_ends (cut component_ends bytes))

-- the open segment that is kept so
abbrev pub flat_open : List ℕ → List ℕ → List ℕ → List ℕ → ℕ → ℕ → ℕ → Open
flat_open tag bytes component_ends element_ends component_from element_from size = record {
  tag = tag;
  elements = cut element_ends (cut component_ends bytes);
  element = drop element_from (cut component_ends bytes);
  component = drop component_from bytes;
  length = size;
}

-- how much room there is, and how much of it is taken
pub record HasFlatRoom (bytes component_ends element_ends : ℕ) (filled components elements size : ℕ) : Type 0 where
  pub bytes_long : bytes ≡ segment_limit
  pub component_ends_long : component_ends ≡ segment_limit
  pub element_ends_long : element_ends ≡ segment_limit
  pub filled_within : filled + 4 ≤ size
  pub components_within : components + 4 ≤ size
  pub elements_within : elements + 4 ≤ size
  pub is_short : size ≤ segment_limit
