-- Defines how steps are run one after another and their results collected.
use Rattle.std.specs.Prelude.{List, [], ◌∷◌, ◌++◌}

-- one step, with its result in a list
abbrev pub single : {X T : Type 0} → X × T → List X × T
single one = (one.0 ∷ [], one.1)

-- one step, without its result
abbrev pub silent : {W X T : Type 0} → W × T → List X × T
silent one = ([], one.1)

-- the first step, then the rest on the state that the first one left
abbrev pub followed_by : {X T : Type 0} → List X × T → (T → List X × T) → List X × T
followed_by first rest = (first.0 ++ (rest first.1).0, (rest first.1).1)
