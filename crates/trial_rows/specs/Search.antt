-- Defines how sorted rows are searched: each row is below what is searched for, at it, or above it.
use Rattle.std.specs.Prelude.{◌≡◌, Bool, true, false, List, [], ◌∷◌, ⊤}
use Rattle.std.specs.List.{AllByRecursion}
use Rattle.std.specs.declared.cmp.Ordering.{Ordering}
use Rattle.std.specs.declared.cmp.Ordering.TheVariants.{Less, Equal, Greater}
use Rattle.std.specs.Ordering.{is_gt}

-- whether a row at the first place may come before one at the second
abbrev pub may_precede : Ordering → Ordering → Bool
may_precede Less later = true
may_precede Equal Less = false
may_precede Equal Equal = true
may_precede Equal Greater = true
may_precede Greater Less = false
may_precede Greater Equal = false
may_precede Greater Greater = true

-- sorted rows are also in the order of their places
abbrev pub KeepsPlaces : {X : Type 0} → (X → X → Ordering) → (X → Ordering) → Type 0
KeepsPlaces {X} cmp place = (x y : X) → is_gt (cmp x y) ≡ false → may_precede (place x) (place y) ≡ true

-- rows below come first, then those at it, then those above
abbrev pub Parted : {X : Type 0} → (X → Ordering) → List X → Type 0
Parted place [] = ⊤
Parted place (x ∷ xs) = AllByRecursion (λ y. may_precede (place x) (place y) ≡ true) xs × Parted place xs
