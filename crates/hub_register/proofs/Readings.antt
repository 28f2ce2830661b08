-- Combines what is read one after another.
use Rattle.std.proofs.Common.{◌≡◌, List, [], ◌++◌, Option, Some, None, option_map, refl}

-- what was read so far, then the rest
abbrev pub after : {X : Type 0} → List X → Option (List X) → Option (List X)
after done rest = option_map (λ more. done ++ more) rest

pub after-nothing : {X : Type 0} (rest : Option (List X)) → after [] rest ≡ rest
after-nothing None = refl
after-nothing (Some more) = refl
