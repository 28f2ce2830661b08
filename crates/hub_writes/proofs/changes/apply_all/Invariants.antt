use Rattle.std.proofs.Common.{◌≡◌, drop}
use Rattle.sqlite.specs.Held.{state}
use Rattle.hub_writes.specs.Acts.{HasRun}
use Rattle.hub_writes.proofs.changes.apply_all.Given as goal

abbrev pub invariant-changes : goal.invariant-changes
invariant-changes g l =
    (l.tx.conn.ghost_name ≡ l.fn.tx.conn.ghost_name)
    × HasRun l.changes (drop l.change-index l.changes) (state g.S.Store l.fn.tx.conn.now) (state g.S.Store
    l.tx.conn.now)
