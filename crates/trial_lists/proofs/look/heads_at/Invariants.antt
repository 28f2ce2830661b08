use Rattle.std.proofs.Common.{◌≡◌, ◌==◌, ◌&&◌, find, map, drop, ◌++◌}
use Rattle.std.specs.List.{filter_map}
use Rattle.hub_tables.specs.Rows.{same}
use Rattle.hub_store.specs.Heads.{head_of}
use Rattle.trial_lists.proofs.look.heads_at.Given as goal

-- what is found so far, then what the other keys search for
abbrev pub invariant-loop-key : goal.invariant-loop-key
invariant-loop-key l =
    map head_of (filter_map (λ key. find (λ row. same row.supplier key.supplier && (row.number == key.number)) l.mail) l.keys)
    ≡ l.heads ++ map head_of (filter_map (λ key. find (λ row. same row.supplier key.supplier && (row.number == key.number)) l.mail)
    (drop l.key-index l.keys))
