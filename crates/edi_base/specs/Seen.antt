-- Defines when an item occurs twice, among texts and among numbers.
use Rattle.std.specs.Prelude.{ℕ, Bool, false, ◌||◌, nat_eq, List, [], ◌∷◌}
use Rattle.std.specs.List.{list_any}
use Rattle.std.specs.Str.{bytes_eq}

-- whether the item is one of these
abbrev pub comes_among : {X : Type 0} → (X → X → Bool) → X → List X → Bool
comes_among same item items = list_any (same item) items

-- whether some item occurs twice
abbrev pub comes_twice : {X : Type 0} → (X → X → Bool) → List X → Bool
comes_twice same [] = false
comes_twice same (item ∷ others) = comes_among same item others || comes_twice same others

-- whether the text is one of these
abbrev pub is_among : List ℕ → List (List ℕ) → Bool
is_among = comes_among bytes_eq

-- whether some text occurs twice
abbrev pub has_twice : List (List ℕ) → Bool
has_twice = comes_twice bytes_eq

-- whether some number occurs twice
abbrev pub has_number_twice : List ℕ → Bool
has_number_twice = comes_twice nat_eq
