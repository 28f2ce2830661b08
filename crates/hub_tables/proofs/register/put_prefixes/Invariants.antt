use Rattle.std.proofs.Common.{◌≡◌, ◌++◌, drop}
use Rattle.hub_tables.specs.Register.{prefix_changes}
use Rattle.hub_tables.proofs.register.put_prefixes.Given as goal

-- the changes for the prefixes so far follow the others
abbrev pub invariant-loop-prefix : goal.invariant-loop-prefix
invariant-loop-prefix l =
    l.initial.changes.items ++ prefix_changes l.supplier l.prefixes
    ≡ l.changes.items ++ prefix_changes l.supplier (drop l.prefix-index l.prefixes)
