use Rattle.std.proofs.Common.{◌≡◌, ◌++◌}
use Rattle.hub_tables.specs.Register.{register_changes, suppliers_changes}
use Rattle.hub_founding.proofs.changes.register_changes.Given as goal

-- the changes so far come before those of the suppliers that are left
abbrev pub invariant-loop-row : goal.invariant-loop-row
invariant-loop-row l = register_changes l.register ≡ l.changes.items ++ suppliers_changes l.row-iterator
