use Rattle.std.proofs.Common.{◌≡◌, ◌++◌, ℕ, List, [], map, drop}
use Rattle.hub_founding.proofs.gathered.empty_lists.Given as goal

-- there is an empty list for each key so far
abbrev pub invariant-loop-key : goal.invariant-loop-key
invariant-loop-key l =
    map {B = List (List ℕ)} (λ row. []) l.keys
    ≡ map (λ list. list.items) l.lists.items ++ map {B = List (List ℕ)} (λ row. []) (drop l._key-index l.keys)
