-- Defines lists sorted by a key, which represent sets of rows.
use Rattle.std.specs.Prelude.{◌≡◌, ℕ, Bool, false, List, [], ◌∷◌, map, if◌then◌else◌, ⊤}
use Rattle.std.specs.List.{AllByRecursion}
use Rattle.std.specs.declared.cmp.Ordering.{Ordering}
use Rattle.std.specs.declared.cmp.Ordering.TheVariants.{Less}
use Rattle.std.specs.Ordering.{nat_cmp, is_gt}
use Rattle.std.specs.Cmp.Lexicographic.{slice_cmp}

-- the order of texts: byte by byte, and a prefix comes before what it begins
abbrev pub bytes_cmp : List ℕ → List ℕ → Ordering
bytes_cmp = slice_cmp nat_cmp

-- no row is greater than a later one
abbrev pub InOrder : {X : Type 0} → (X → X → Ordering) → List X → Type 0
InOrder cmp [] = ⊤
InOrder cmp (x ∷ xs) = AllByRecursion (λ y. is_gt (cmp x y) ≡ false) xs × InOrder cmp xs

-- inserts a row at its place
abbrev pub put : {X : Type 0} → (X → X → Ordering) → X → List X → List X
put cmp x [] = x ∷ []
put cmp x (y ∷ ys) = if is_gt (cmp y x) then x ∷ y ∷ ys else y ∷ put cmp x ys

-- replaces each row that passes the test by the new one
abbrev pub replace : {X : Type 0} → (X → Bool) → X → List X → List X
replace at row rows = map (λ old. if at old then row else old) rows

-- each key is lower than all keys after it
abbrev pub Rises : {X : Type 0} → (X → X → Ordering) → List X → Type 0
Rises cmp [] = ⊤
Rises cmp (x ∷ xs) = AllByRecursion (λ y. cmp x y ≡ Less) xs × Rises cmp xs
