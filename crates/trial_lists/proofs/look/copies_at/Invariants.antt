use Rattle.std.proofs.Common.{◌≡◌, find, drop, ◌++◌}
use Rattle.std.specs.List.{filter_map}
use Rattle.trial_lists.proofs.look.copies_at.Given as goal

-- what is found so far, then what the other keys search for
abbrev pub invariant-loop-key : goal.invariant-loop-key
invariant-loop-key g l =
    filter_map (λ key. find (g.K.SearchKey.wanted key) l.rows) l.keys ≡ l.found ++ filter_map
    (λ key. find (g.K.SearchKey.wanted key) l.rows)
    (drop l.key-index l.keys)
