-- What is found of pieces.
use Rattle.std.specs.Prelude.{Option, None, Some}

-- nothing was found, so this holds; or what was found shows that
abbrev pub Told : {X : Type 0} → Type 0 → (X → Type 0) → Option X → Type 0
Told holds shows None = holds
Told holds shows (Some found) = shows found
